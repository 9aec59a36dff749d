-- `inside::walk_vertices` meets its contract: what is left, after what was met, is the whole. Assumes nothing.
use Rattle.format.proofs.Geography.{lawful_vertex}
use Rattle.tally.proofs.Tours.{bytes_all}
use Rattle.tally.proofs.Rounds.{round_first, round_next, round_last, all_same}
use Rattle.inside.proofs.walk_vertices.Goals as goal

pub loop-j-init : goal.loop-j-init
loop-j-init c = round_first _ _ _ _ _ _ _

pub loop-j-preserved : goal.loop-j-preserved
loop-j-preserved c = round_next _ _ (λ m. lawful_vertex) _ (bytes_all _ c.type_inv.s) _ _ _ c.loop-j-test.true c.loop-j.invariant c.walk_vertex-tour.ensures

pub returns : goal.returns
returns c = all_same _ _ _ _ (round_last _ _ _ _ _ _ _ c.loop-j-test.false c.loop-j.invariant)
