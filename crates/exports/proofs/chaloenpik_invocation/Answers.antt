-- `exports::chaloenpik_invocation` meets its contract: the record that is shown, in the lent list. Assumes nothing.
use Rattle.numbers.specs.Records.{invocation_numbers}
use Rattle.numbers.proofs.Lent.{lent_answer}
use Rattle.exports.proofs.chaloenpik_invocation.Goals as goal

pub returns : goal.returns
returns c = lent_answer invocation_numbers c.args.list.now c.invocation.ensures c.lend_invocation.ensures
