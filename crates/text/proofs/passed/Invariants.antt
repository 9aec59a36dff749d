-- `text::passed`: what is said of the bytes that are left is what is said of all.
use mathlib.Core.Path.{◌≡◌}
use Prim.Native.Nat.{◌-◌}
use lib.ListN.{drop}
use Rattle.text.proofs.Runs.{text}
use Rattle.text.proofs.passed.Given as goal

abbrev pub invariant-loop-i : goal.invariant-loop-i
invariant-loop-i l = text l.i (drop l.i l.b) ≡ text l.from (drop l.from l.b)

abbrev pub decreases-loop-i : goal.decreases-loop-i
decreases-loop-i l = l.limit - l.i
