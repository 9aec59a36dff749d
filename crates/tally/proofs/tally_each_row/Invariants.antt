-- `tally::tally_each_row`: what is left, after what was counted, is the whole.
use Rattle.std.proofs.Common.{[]}
use Rattle.format.specs.Format.{Index}
use Rattle.tally.proofs.Rounds.{Round}
use Rattle.tally.specs.Tallies.{counting}
use Rattle.format.specs.Message.{second, row}
use Rattle.tally.proofs.tally_each_row.Given as goal

abbrev pub invariant-loop : goal.invariant-loop
invariant-loop l = (ix : Index) → Round second (λ m. row l.types) l.s ix l.n (counting l.initial.tally) [] l.counter (counting l.tally) []
