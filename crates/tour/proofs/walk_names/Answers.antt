-- `tour::walk_names` meets its contract: what is left, after what was met, is the whole. Assumes nothing.
use Rattle.tally.proofs.Values.{lawful_string}
use Rattle.tally.proofs.Tours.{bytes_all}
use Rattle.tally.proofs.Rounds.{round_first, round_next, round_last, all_same}
use Rattle.tour.proofs.walk_names.Goals as goal

pub loop-k-init : goal.loop-k-init
loop-k-init c = round_first _ _ _ _ _ _ _

pub loop-k-preserved : goal.loop-k-preserved
loop-k-preserved c = round_next _ _ (λ m. lawful_string _ _ _ _) _ (bytes_all _ c.type_inv.s) _ _ _ c.loop-k-test.true c.loop-k.invariant (c.walk_body-tour.ensures _ _)

pub returns : goal.returns
returns c = all_same _ _ _ _ (round_last _ _ _ _ _ _ _ c.loop-k-test.false c.loop-k.invariant)
