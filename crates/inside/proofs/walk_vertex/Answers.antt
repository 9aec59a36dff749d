-- `inside::walk_vertex` meets its contract: what is left, after what was met, is the whole. Assumes nothing.
use Rattle.format.specs.Geography.{vertex}
use Rattle.format.proofs.Laws.{lawful_number}
use Rattle.tally.proofs.Tours.{bytes_all}
use Rattle.tally.proofs.Rounds.{round_first, round_next, round_last, all_same}
use Rattle.inside.proofs.walk_vertex.Goals as goal

pub loop-k-init : goal.loop-k-init
loop-k-init c = round_first _ _ _ _ _ _ _

pub loop-k-preserved : goal.loop-k-preserved
loop-k-preserved c = round_next _ _ (λ m. lawful_number _ _) _ (bytes_all _ c.type_inv.s) _ _ _ c.loop-k-test.true c.loop-k.invariant c.walk_fixed-tour.ensures

pub returns : goal.returns
unfolding vertex
returns c = all_same _ _ _ 3 (round_last _ _ _ _ _ _ _ c.loop-k-test.false c.loop-k.invariant)
