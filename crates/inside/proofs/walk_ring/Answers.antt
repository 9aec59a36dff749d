-- `inside::walk_ring` meets its contract: its byte, its count, so many vertices, and its kept bytes. Assumes nothing.
use Rattle.format.specs.Geography.{ring_kept, fewest_vertices}
use Rattle.format.proofs.Laws.{lawful_number}
use Rattle.scan.proofs.Answers.{number_stands}
use Rattle.tally.proofs.Tours.{bytes_all, walked_block, walked_then, walked_by}
use Rattle.inside.proofs.Walks.{outlined, lawful_vertices, lawful_least, least_told, walked_least, walked_ring}
use Rattle.inside.proofs.walk_ring.Goals as goal

pub returns : goal.returns
returns c =
    let a = c.args in
    let s = a.s.now in
    let by = bytes_all s c.type_inv.s in
    let n = c.number_at-n in
    walked_ring s by (walked_then s by (lawful_number 1 64) c.walk_fixed-count.ensures
    (walked_by s by outlined (lawful_least fewest_vertices 65) (least_told s fewest_vertices 65 _ (number_stands n.ensures)) (walked_least s fewest_vertices 65 c.walk_fixed-vertices.ensures)
    (walked_then s by (lawful_vertices n.result) c.walk_vertices-kept.ensures (walked_block s ring_kept 67 c.walk_fixed.ensures))))
