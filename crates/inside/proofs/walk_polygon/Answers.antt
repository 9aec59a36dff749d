-- `inside::walk_polygon` meets its contract: three bytes, a count, so many rings, and its kept bytes. Assumes nothing.
use mathlib.Core.Path.{◌∙◌}
use Rattle.format.specs.Geography.{body_kept}
use Rattle.format.proofs.Laws.{lawful_number}
use Rattle.scan.proofs.Answers.{number_stands}
use Rattle.tally.proofs.Tours.{bytes_all, walked_block, walked_then}
use Rattle.inside.proofs.Walks.{lawful_rings, walked_holed, walked_polygon}
use Rattle.inside.proofs.walk_polygon.Goals as goal

pub shape_of-out : goal.shape_of-out
shape_of-out c = c.walk_fixed.auto.out ∙ (c.walk_rings-kept.auto.out ∙ (c.walk_fixed-rings.auto.out ∙ (c.walk_fixed-count.auto.out ∙ (c.walk_fixed-holes.auto.out ∙ c.walk_fixed-internal.auto.out))))

pub returns : goal.returns
returns c =
    let a = c.args in
    let b = a.b.now in
    let by = bytes_all b c.type_inv.b in
    let n = c.number_at-n in
    walked_polygon b by (walked_then b by (lawful_number 1 60) c.walk_fixed-internal.ensures
    (walked_then b by (lawful_number 1 61) c.walk_fixed-holes.ensures
    (walked_holed b by c.walk_fixed-count.ensures (number_stands n.ensures) c.walk_fixed-rings.ensures
    (walked_then b by (lawful_rings n.result) c.walk_rings-kept.ensures (walked_block b body_kept 68 c.walk_fixed.ensures)))))
