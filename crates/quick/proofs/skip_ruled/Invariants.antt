-- `quick::skip_ruled`: after a run and the row behind it, where the rows that are left end is where all end.
use mathlib.Core.Path.{◌≡◌}
use Prim.Native.Nat.{◌-◌, ◌≤◌}
use Rattle.format.specs.Message.{row}
use Rattle.quick.specs.Past.{Ends}
use Rattle.quick.proofs.skip_ruled.Given as goal

abbrev pub invariant-loop-i : goal.invariant-loop-i
invariant-loop-i l = (l.i ≤ l.n) × (Ends (row l.types.bytes.now) l.s (l.n - l.i) l.at ≡ Ends (row l.types.bytes.now) l.s l.n l.from)

abbrev pub decreases-loop-i : goal.decreases-loop-i
decreases-loop-i l = l.n - l.i
