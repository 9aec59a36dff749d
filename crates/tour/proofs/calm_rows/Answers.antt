-- `tour::calm_rows` meets its contract: a full list, rows that end too early, and rows of too low numbers. Assumes nothing.
use Rattle.std.proofs.Common.{inl, inr, arith}
use Rattle.tour.proofs.Calms.{wholes_fit}
use Rattle.tour.proofs.calm_rows.Goals as goal

pub returns-then-room-task : goal.returns-then-room-task
returns-then-room-task c = (omega arith, λ some_rows. inl c.if-room-task.true)

pub returns-then-early-low : goal.returns-then-early-low
returns-then-early-low c =
    let l = c.lesser.ensures in
    let a = c.args in
    let p = c.requires in
    (l.1, λ some_rows. inr (inr (wholes_fit a.task.seen a.task.first a.fields some_rows p.1 l.0 c.wholes-low.ensures)))

pub returns : goal.returns
returns c =
    let l = c.lesser-2.ensures in
    let a = c.args in
    let p = c.requires in
    (l.1, λ some_rows. inr (inl (wholes_fit a.at a.task.offset a.size some_rows p.0 l.0 c.wholes-early.ensures)))
