-- `tally::tally_names`: what is left, after what was counted, is the whole.
use Rattle.std.proofs.Common.{false, []}
use Rattle.format.specs.Format.{Index}
use Rattle.tally.proofs.Rounds.{Round}
use Rattle.tally.specs.Tallies.{counting}
use Rattle.format.specs.Value.{string, ascii}
use Rattle.format.specs.Message.{third}
use Rattle.tally.proofs.tally_names.Given as goal

abbrev pub invariant-loop : goal.invariant-loop
invariant-loop l = (ix : Index) → Round third (λ m. string false ascii 46 47) l.s ix l.n (counting l.initial.tally) [] l.counter (counting l.tally) []
