-- `text::is_short_ascii`: the bytes so far are ASCII.
use Rattle.text.specs.Shown.{LowRun}
use Rattle.text.proofs.is_short_ascii.Given as goal

abbrev pub invariant-loop-x : goal.invariant-loop-x
invariant-loop-x l = LowRun l.b 0 l.x-index
