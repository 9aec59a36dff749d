-- `tour::walk_tables`: what is left, after what was met, is the whole.
use Rattle.format.specs.Message.{first, table}
use Rattle.tally.specs.Walks.{index_of}
use Rattle.tally.proofs.Rounds.{Round}
use Rattle.tour.proofs.walk_tables.Given as goal

abbrev pub invariant-loop-i : goal.invariant-loop-i
invariant-loop-i l = Round first (λ m. table) l.s (index_of l.ix) l.n l.initial.tour l.initial.out l.i l.tour l.out
