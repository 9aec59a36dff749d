-- `tour::walk_types` meets its contract: what is left, after what was met, is the whole. Assumes nothing.
use Rattle.format.proofs.Laws.{lawful_number, lawful_ruled}
use Rattle.tally.proofs.Tours.{walked_ruled, bytes_all}
use Rattle.tally.proofs.Rounds.{round_first, round_next, round_last, all_same}
use Rattle.tour.proofs.walk_types.Goals as goal

pub loop-k-init : goal.loop-k-init
loop-k-init c = round_first _ _ _ _ _ _ _

pub loop-k-preserved : goal.loop-k-preserved
loop-k-preserved c = round_next _ _ (λ m. lawful_ruled _ _ (lawful_number _ _)) _ (bytes_all _ c.type_inv.s) _ _ _ c.loop-k-test.true c.loop-k.invariant (walked_ruled _ _ _ c.walk_fixed-tour.ensures)

pub returns : goal.returns
returns c = all_same _ _ _ _ (round_last _ _ _ _ _ _ _ c.loop-k-test.false c.loop-k.invariant)
