-- `write::is_at` meets its contract: by the stage's number. Assumes nothing.
use mathlib.Core.Path.{ap}
use Prim.Native.Nat.{ℕ}
use lib.Dec.{eqb}
use Rattle.write.proofs.is_at.Goals as goal

pub returns : goal.returns
returns c = ap (λ (n : ℕ). eqb n c.args.number) c.stage_number.ensures
