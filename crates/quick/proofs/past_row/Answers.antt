-- `quick::past_row` meets its contract: a room that fits, and cells that fill it. Assumes nothing.
use Rattle.std.specs.Prelude.{Ok}
use mathlib.Core.Path.{◌≡◌, sym, ap, ◌∙◌}
use lib.ListN.{length, take}
use lib.Seq.{length-take-le}
use native.Mathlib.Omega.{arith}
use Rattle.format.specs.Message.{most_row}
use Rattle.quick.proofs.Bodies.{sure}
use Rattle.quick.proofs.Rows.{row_reads}
use Rattle.quick.proofs.past_row.Goals as goal

pub returns-in_default : goal.returns-in_default
returns-in_default c = λ there. absurd (omega arith)

pub slice_bounds-past_cells-end : goal.slice_bounds-past_cells-end
slice_bounds-past_cells-end c =
    let a = c.args in
    let is = sure a.s.now a.at most_row c.sure_body.ensures c.in-Some.is in
    sym (length-take-le _ a.s.now is.3)

pub past_cells-past-requires : goal.past_cells-past-requires
past_cells-past-requires c =
    let is = sure c.args.s.now c.args.at most_row c.sure_body.ensures c.in-Some.is in
    omega (arith, is.0, is.1, length-take-le _ c.args.s.now is.3)

pub returns-then-past-end : goal.returns-then-past-end
returns-then-past-end c =
    let a = c.args in
    let end = c.in-Some.end in
    let is = sure a.s.now a.at most_row c.sure_body.ensures c.in-Some.is in
    let size : length (take end a.s.now) ≡ end = length-take-le end a.s.now is.3 in
    let cells = c.past_cells-past.ensures (omega (arith, c.if-past-end.true, is.1)) (omega (arith, c.if-past-end.true, size)) ∙ ap Ok c.if-past-end.true in
    λ there. row_reads a.types.bytes.now a.s.now a.at end is.2 is.1 is.3 (rw (sym is.0) cells)

pub returns-else-past-end : goal.returns-else-past-end
returns-else-past-end c = λ there. absurd (omega arith)
