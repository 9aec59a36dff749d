-- `text::are_low`: no byte so far is above the highest that was met.
use Rattle.text.proofs.Runs.{Below}
use Rattle.text.proofs.are_low.Given as goal

abbrev pub invariant-loop-k : goal.invariant-loop-k
invariant-loop-k l = Below l.b l.i l.top l.k
