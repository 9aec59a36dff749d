-- `text::are_right`: as long as nothing wrong was found, all bytes that were looked at are right.
use mathlib.Core.Path.{◌≡◌}
use mathlib.Core.Bool.{false}
use Rattle.text.specs.Windows.{RightRun}
use Rattle.text.proofs.are_right.Given as goal

abbrev pub invariant-loop-k : goal.invariant-loop-k
invariant-loop-k l = l.wrong ≡ false → RightRun l.b l.i l.k
