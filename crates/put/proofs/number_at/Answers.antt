-- `put::number_at` meets its contract: the part from the place on is lent, and comes back with the number at its start. Assumes nothing.
use Rattle.format.specs.Number.{num_bytes}
use Rattle.format.proofs.Numbers.{length-num_bytes}
use Rattle.put.proofs.Laws.{lent_sized}
use borrow.Author.Rules.{rules}
use Rattle.put.proofs.number_at.Goals as goal

pub returns : goal.returns
returns c = (search rules, lent_sized _ _ _ (num_bytes c.args.k c.args.n) _ (length-num_bytes _ _) c.requires c.put_number.ensures)
