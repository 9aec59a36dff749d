-- `tour::walk_server` meets its contract: field after field. Assumes nothing.
use Rattle.std.proofs.Common.{false, ◌∙◌}
use Rattle.format.specs.Text.{utf8}
use Rattle.format.proofs.Laws.{lawful_number}
use Rattle.tally.proofs.Tours.{bytes_all, walked_then}
use Rattle.tour.proofs.Contents.{walked_server}
use Rattle.tour.proofs.walk_server.Goals as goal

pub shape_of-out : goal.shape_of-out
shape_of-out c = c.walk_body.auto.out ∙ (c.walk_fixed-build.auto.out ∙ (c.walk_fixed-leader.auto.out ∙ (c.walk_fixed-start.auto.out ∙ c.walk_fixed-connection.auto.out)))

pub returns : goal.returns
returns c =
    let a = c.args in
    let s = a.s.now in
    let b = bytes_all a.s.now c.type_inv.s in
    walked_server s b (walked_then s b (lawful_number 4 11) c.walk_fixed-connection.ensures (walked_then s b (lawful_number 8 12) c.walk_fixed-start.ensures
    (walked_then s b (lawful_number 8 13) c.walk_fixed-leader.ensures (walked_then s b (lawful_number 4 14) c.walk_fixed-build.ensures (c.walk_body.ensures false utf8)))))
