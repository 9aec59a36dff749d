-- `inside::walk_vertices`: what is left, after what was met, is the whole.
use Rattle.format.specs.Message.{second}
use Rattle.format.specs.Geography.{vertex}
use Rattle.tally.specs.Walks.{index_of}
use Rattle.tally.proofs.Rounds.{Round}
use Rattle.inside.proofs.walk_vertices.Given as goal

abbrev pub invariant-loop-j : goal.invariant-loop-j
invariant-loop-j l = Round second (λ m. vertex) l.s (index_of l.ix) l.n l.initial.tour l.initial.out l.j l.tour l.out
