-- `inside::visit_inside` meets its contract: what `areas::rings` says of the body, and the walk over one that is accepted. Assumes nothing.
use Rattle.inside.proofs.Bodies.{body_accepted}
use Rattle.inside.proofs.visit_inside.Goals as goal

pub returns : goal.returns
returns c =
    let a = c.args in
    body_accepted a.b.now a.task a.out.now c.rings.ensures c.in_ok-rings.was c.walk_polygon-tour.ensures
