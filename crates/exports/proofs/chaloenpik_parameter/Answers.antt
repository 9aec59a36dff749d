-- `exports::chaloenpik_parameter` meets its contract: what the query answers, in the lent list. Assumes nothing.
use Rattle.numbers.specs.Listed.{given_numbers}
use Rattle.numbers.proofs.Lent.{lent_answer}
use Rattle.exports.proofs.chaloenpik_parameter.Goals as goal

pub returns : goal.returns
returns c = lent_answer given_numbers c.args.list.now c.parameter.ensures c.lend_argument.ensures
