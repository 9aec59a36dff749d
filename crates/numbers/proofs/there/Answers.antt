-- `numbers::there` meets its contract, case by case. Assumes nothing.
use Rattle.numbers.proofs.Lent.{not_there}
use Rattle.numbers.proofs.there.Goals as goal

pub returns-in_default : goal.returns-in_default
returns-in_default c = not_there c.args.s c.in_default.not-At
