-- `scan::skip_row` meets its contract: a room, and the cells in it. Assumes nothing.
use Rattle.format.proofs.Results.{handed_on}
use mathlib.Core.Path.{sym, ap, ◌∙◌}
use Rattle.std.specs.Prelude.{Ok}
use mathlib.Core.List.{map}
use lib.Seq.{length-take-le}
use Rattle.format.specs.Format.{each}
use Rattle.format.specs.Value.{value}
use Rattle.format.specs.Message.{row, third, most_row}
use Rattle.scan.specs.Shown.{shown_next}
use Rattle.scan.proofs.Answers.{next_go, next_stop, span_stop}
use Rattle.scan.proofs.Counted.{span_here, room_stop, room_fault, room_left, room_full}
use Rattle.scan.proofs.skip_row.Goals as goal

pub returns-in_err-start : goal.returns-in_err-start
unfolding row
returns-in_err-start c =
    let a = c.args in
    let stop = span_stop _ _ c.read_span.ensures c.in_err-start.was in
    handed_on c.from_residual.ensures ∙ sym (ap shown_next (room_stop most_row 49 (each third 0 (map (value 50 51) a.types.now)) a.s.now a.at stop))

pub slice_bounds-skip_cells-end : goal.slice_bounds-skip_cells-end
slice_bounds-skip_cells-end c =
    let a = c.args in
    let h = span_here most_row a.s.now a.at c.read_span.ensures c.in_ok-start.was in
    sym (length-take-le _ a.s.now h.fit)

pub returns-in_err-next : goal.returns-in_err-next
unfolding row
returns-in_err-next c =
    let a = c.args in
    let h = span_here most_row a.s.now a.at c.read_span.ensures c.in_ok-start.was in
    let stop = next_stop _ c.skip_cells.ensures c.in_err-next.was in
    handed_on c.from_residual-in_err-next.ensures ∙ sym (ap shown_next (room_fault most_row 49 (each third 0 (map (value 50 51) a.types.now)) a.s.now a.at h stop))

pub returns-then-next-end : goal.returns-then-next-end
unfolding row
returns-then-next-end c =
    let a = c.args in
    let h = span_here most_row a.s.now a.at c.read_span.ensures c.in_ok-start.was in
    let go = next_go _ c.skip_cells.ensures c.in_ok-next.was in
    sym (ap shown_next (room_left most_row 49 (each third 0 (map (value 50 51) a.types.now)) a.s.now a.at h go.1 c.if-next-end.true))

pub returns : goal.returns
unfolding row
returns c =
    let a = c.args in
    let h = span_here most_row a.s.now a.at c.read_span.ensures c.in_ok-start.was in
    let go = next_go _ c.skip_cells.ensures c.in_ok-next.was in
    ap Ok (sym c.if-next-end.false) ∙ sym (ap shown_next (room_full most_row 49 (each third 0 (map (value 50 51) a.types.now)) a.s.now a.at h go.1 c.if-next-end.false))
