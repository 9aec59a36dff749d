-- `tour::visit_all` meets its contract: the verdict on the message, and the walk over one that is accepted. Assumes nothing.
use Rattle.std.proofs.Common.{ap, ◌∙◌}
use Rattle.format.specs.Result.{told}
use Rattle.format.proofs.Results.{handed_on}
use Rattle.tally.specs.Task.{doing}
use Rattle.tour.proofs.Messages.{tour_refused, tour_accepted}
use Rattle.tour.proofs.visit_all.Goals as goal

pub returns-in_err-accept_layout : goal.returns-in_err-accept_layout
returns-in_err-accept_layout c =
    let a = c.args in
    let refused = tour_refused a.layout a.m.now (doing a.task a.out.now) c.accept_layout.ensures c.in_err-accept_layout.was in
    (ap told (handed_on c.from_residual.ensures) ∙ refused.0, refused.1)

pub returns : goal.returns
returns c = let a = c.args in tour_accepted a.layout a.m.now a.task a.out.now c.accept_layout.ensures c.in_ok-accept_layout.was c.walk_message-tour.ensures
