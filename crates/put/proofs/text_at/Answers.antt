-- `put::text_at` meets its contract: the part from the place on is lent, and comes back with the text at its start. Assumes nothing.
use Prim.Native.Nat.{ℕ, ◌+◌}
use mathlib.Core.Path.{ap}
use Rattle.put.specs.Put.{given, sized}
use Rattle.put.proofs.Laws.{lent}
use borrow.Author.Rules.{rules}
use Rattle.put.proofs.text_at.Goals as goal

pub overflow_add-result : goal.overflow_add-result
overflow_add-result c = rw c.text_size.ensures.0 (search rules)

pub returns : goal.returns
returns c = (ap (λ (w : ℕ). c.args.at + w) c.text_size.ensures.0, lent _ _ (sized (given c.args.text)) _ c.requires c.put_text.ensures)
