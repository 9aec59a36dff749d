-- `exports::chaloenpik_response` meets its contract: the record that is shown, in the lent list. Assumes nothing.
use Rattle.numbers.specs.Records.{response_numbers}
use Rattle.numbers.proofs.Lent.{lent_answer}
use Rattle.exports.proofs.chaloenpik_response.Goals as goal

pub returns : goal.returns
returns c = lent_answer response_numbers c.args.list.now c.response.ensures c.lend_response.ensures
