-- `tally::tally_cells`: what is left, after what was counted, is the whole.
use Rattle.std.proofs.Common.{[], length, get_or}
use Rattle.format.specs.Format.{Index}
use Rattle.format.specs.Value.{value}
use Rattle.format.specs.Message.{third}
use Rattle.tally.proofs.Rounds.{Round}
use Rattle.tally.specs.Tallies.{counting}
use Rattle.tally.proofs.tally_cells.Given as goal

abbrev pub invariant-loop-t : goal.invariant-loop-t
invariant-loop-t l = (ix : Index) → Round third (λ m. value 50 51 (get_or l.types m 0)) l.s ix (length l.types) (counting l.initial.tally) [] l.t-index (counting l.tally) []
