-- `pass::pass_cells`: what is left ends where the whole does.
use lib.ListN.{length, get_or}
use Rattle.format.specs.Value.{value}
use Rattle.format.specs.Message.{third}
use Rattle.pass.proofs.Rounds.{Round}
use Rattle.pass.proofs.pass_cells.Given as goal

abbrev pub invariant-loop-t : goal.invariant-loop-t
invariant-loop-t l = Round third (λ i. value 50 51 (get_or l.types i 0)) l.s (length l.types) l.from l.t-index l.at
