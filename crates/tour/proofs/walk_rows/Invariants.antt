-- `tour::walk_rows`: what is left, after what was met or passed, is the whole.
use Rattle.std.proofs.Common.{◌-◌}
use Rattle.format.specs.Message.{second, row}
use Rattle.tally.specs.Walks.{index_of}
use Rattle.tally.proofs.Rounds.{Round}
use Rattle.tour.proofs.walk_rows.Given as goal

abbrev pub invariant-loop-j : goal.invariant-loop-j
invariant-loop-j l = Round second (λ m. row l.types) l.s (index_of l.ix) (l.n) l.initial.tour l.initial.out l.j l.tour l.out

abbrev pub decreases-loop-j : goal.decreases-loop-j
decreases-loop-j l = l.n - l.j
