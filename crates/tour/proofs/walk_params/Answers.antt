-- `tour::walk_params` meets its contract: what is left, after what was met, is the whole. Assumes nothing.
use Rattle.format.proofs.Formats.{lawful_param}
use Rattle.tally.proofs.Tours.{bytes_all}
use Rattle.tally.proofs.Rounds.{round_first, round_next, round_last, all_same}
use Rattle.tour.proofs.walk_params.Goals as goal

pub loop-i-init : goal.loop-i-init
loop-i-init c = round_first _ _ _ _ _ _ _

pub loop-i-preserved : goal.loop-i-preserved
loop-i-preserved c = round_next _ _ (λ m. lawful_param) _ (bytes_all _ c.type_inv.s) _ _ _ c.loop-i-test.true c.loop-i.invariant c.walk_param-tour.ensures

pub returns : goal.returns
returns c = all_same _ _ _ _ (round_last _ _ _ _ _ _ _ c.loop-i-test.false c.loop-i.invariant)
