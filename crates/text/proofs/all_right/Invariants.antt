-- `text::all_right`: the bytes before the place that is looked at are right; the last 16 join them.
use Prim.Native.Nat.{◌-◌, ◌≤◌}
use Rattle.text.specs.Windows.{RightRun}
use Rattle.text.proofs.all_right.Given as goal

abbrev pub invariant-loop-i : goal.invariant-loop-i
invariant-loop-i l = (l.start ≤ l.i) × (l.i ≤ l.end) × RightRun l.b l.start (l.i - l.start)

abbrev pub decreases-loop-i : goal.decreases-loop-i
decreases-loop-i l = l.end - l.i
