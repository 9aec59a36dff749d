-- `tour::walk_names`: what is left, after what was met, is the whole.
use Rattle.std.proofs.Common.{false}
use Rattle.format.specs.Value.{string, ascii}
use Rattle.format.specs.Message.{third}
use Rattle.tally.specs.Walks.{index_of}
use Rattle.tally.proofs.Rounds.{Round}
use Rattle.tour.proofs.walk_names.Given as goal

abbrev pub invariant-loop-k : goal.invariant-loop-k
invariant-loop-k l = Round third (λ m. string false ascii 46 47) l.s (index_of l.ix) l.n l.initial.tour l.initial.out l.k l.tour l.out
