-- `tour::walk_types`: what is left, after what was met, is the whole.
use Rattle.format.specs.Message.{third, column_type}
use Rattle.tally.specs.Walks.{index_of}
use Rattle.tally.proofs.Rounds.{Round}
use Rattle.tour.proofs.walk_types.Given as goal

abbrev pub invariant-loop-k : goal.invariant-loop-k
invariant-loop-k l = Round third (λ m. column_type 45) l.s (index_of l.ix) l.n l.initial.tour l.initial.out l.k l.tour l.out
