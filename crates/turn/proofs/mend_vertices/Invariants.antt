-- `turn::mend_vertices`: one vertex more is put into its own order.
use Prim.Native.Nat.{ℕ, ◌+◌, ◌-◌, ◌*◌}
use mathlib.Core.List.{List, reverse}
use Rattle.turn.specs.Turning.{Changing, Block, itself}
use Rattle.turn.proofs.mend_vertices.Given as goal

abbrev pub invariant-loop-i : goal.invariant-loop-i
invariant-loop-i l = (target : List ℕ) → Changing reverse itself Block l.initial.b target l.from l.n → Changing reverse itself Block l.b target (l.from + 24 * l.i) (l.n - l.i)
