-- `tour::walk_cells`: what is left, after what was met, is the whole.
use Rattle.std.proofs.Common.{length, get_or}
use Rattle.format.specs.Value.{value}
use Rattle.format.specs.Message.{third}
use Rattle.tally.specs.Walks.{index_of}
use Rattle.tally.proofs.Rounds.{Round}
use Rattle.tour.proofs.walk_cells.Given as goal

abbrev pub invariant-loop-k : goal.invariant-loop-k
invariant-loop-k l = Round third (λ m. value 50 51 (get_or l.types m 0)) l.s (index_of l.ix) (length l.types) l.initial.tour l.initial.out l.k l.tour l.out
