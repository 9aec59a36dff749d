-- `text::is_ascii_by`: the bytes before the place that is looked at are all ASCII; the last ones, looked at first, join them.
use Prim.Native.Nat.{◌-◌, ◌≤◌}
use lib.ListN.{length}
use Rattle.text.specs.Shown.{LowRun}
use Rattle.text.proofs.is_ascii_by.Given as goal

abbrev pub invariant-loop-i : goal.invariant-loop-i
invariant-loop-i l = (l.i ≤ length l.b) × LowRun l.b 0 l.i

abbrev pub decreases-loop-i : goal.decreases-loop-i
decreases-loop-i l = length l.b - l.i
