-- `tour::walk_values`: what is left, after what was met, is the whole.
use Rattle.format.specs.Value.{value}
use Rattle.format.specs.Message.{second}
use Rattle.tally.specs.Walks.{index_of}
use Rattle.tally.proofs.Rounds.{Round}
use Rattle.tour.proofs.walk_values.Given as goal

abbrev pub invariant-loop-j : goal.invariant-loop-j
invariant-loop-j l = Round second (λ m. value 27 28 l.t) l.s (index_of l.ix) l.n l.initial.tour l.initial.out l.j l.tour l.out
