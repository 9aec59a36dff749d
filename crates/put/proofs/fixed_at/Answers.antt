-- `put::fixed_at` meets its contract: the part from the place on is lent, and comes back with the value at its start. Assumes nothing.
use Prim.Native.Nat.{ℕ, ◌+◌, ◌*◌, ◌^◌}
use mathlib.Core.Path.{ap}
use Rattle.format.specs.Number.{num_bytes}
use Rattle.format.specs.Value.{width_of}
use Rattle.format.proofs.Numbers.{length-num_bytes}
use Rattle.put.proofs.Laws.{lent_sized}
use borrow.Author.Rules.{rules}
use Rattle.put.proofs.fixed_at.Goals as goal

pub overflow_add-result : goal.overflow_add-result
overflow_add-result c = rw c.width_of.ensures (search rules)

pub returns : goal.returns
returns c = (ap (λ (w : ℕ). c.args.at + w) c.width_of.ensures, lent_sized (width_of c.args.t) _ _ (num_bytes (width_of c.args.t) (c.args.upper * 2 ^ 64 + c.args.lower)) _ (length-num_bytes _ _) c.requires c.put_fixed.ensures)
