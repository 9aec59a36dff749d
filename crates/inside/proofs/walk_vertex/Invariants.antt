-- `inside::walk_vertex`: what is left, after what was met, is the whole.
use Rattle.format.specs.Format.{number}
use Rattle.format.specs.Message.{third}
use Rattle.tally.specs.Walks.{index_of}
use Rattle.tally.proofs.Rounds.{Round}
use Rattle.inside.proofs.walk_vertex.Given as goal

abbrev pub invariant-loop-k : goal.invariant-loop-k
invariant-loop-k l = Round third (λ m. number 8 66) l.s (index_of l.ix) 3 l.initial.tour l.initial.out l.k l.tour l.out
