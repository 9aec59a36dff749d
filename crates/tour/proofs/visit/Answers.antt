-- `tour::visit` meets its contract: no field, or one that is handed to the task. Assumes nothing.
use Rattle.tally.specs.Walks.{state_of, index_of}
use Rattle.tally.proofs.Visits.{visit_none, visit_one}
use Rattle.std.proofs.Common.{rules}
use Rattle.tour.proofs.visit.Goals as goal

pub returns-then-end-at : goal.returns-then-end-at
returns-then-end-at c = let a = c.args in record { place = search rules; state = visit_none (state_of a.tour a.out.now) a.tour.at a.end a.field (index_of a.ix) c.if-end-at.true }

pub returns : goal.returns
returns c =
    let a = c.args in
    record { place = search rules; state = visit_one (state_of a.tour a.out.now) a.tour.at a.end a.field (index_of a.ix) c.if-end-at.false c.act-done.ensures }
