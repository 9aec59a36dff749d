-- `message::read_columns` meets its contract: a room, and the columns in it. Assumes nothing.
use Rattle.format.proofs.Results.{handed_on}
use mathlib.Core.Path.{sym, ap, ◌∙◌}
use lib.Seq.{length-take-le}
use Rattle.format.specs.Message.{unlimited}
use Rattle.scan.proofs.Answers.{span_stop}
use Rattle.scan.proofs.Counted.{span_here, room_stop, room_fault, room_left, room_full}
use Rattle.message.specs.Columns.{shown_columns}
use Rattle.message.specs.Inner.{described}
use Rattle.message.proofs.Rooms.{columns_go, columns_stop, same_columns, types_place, metadata_room}
use Rattle.message.proofs.read_columns.Goals as goal

pub returns-in_err-start : goal.returns-in_err-start
returns-in_err-start c =
    let a = c.args in
    let stop = span_stop a.at _ c.read_room.ensures c.in_err-start.was in
    handed_on c.from_residual.ensures ∙ sym (ap (shown_columns _) (metadata_room _ _ ∙ room_stop unlimited 42 described a.s.now a.at stop))

pub slice_bounds-read_described-end : goal.slice_bounds-read_described-end
slice_bounds-read_described-end c =
    let a = c.args in
    let h = span_here unlimited a.s.now a.at c.read_room.ensures c.in_ok-start.was in
    sym (length-take-le _ a.s.now h.fit)

pub returns-in_err-types : goal.returns-in_err-types
returns-in_err-types c =
    let a = c.args in
    let h = span_here unlimited a.s.now a.at c.read_room.ensures c.in_ok-start.was in
    let stop = columns_stop _ _ c.read_described.ensures c.in_err-types.was in
    handed_on c.from_residual-in_err-types.ensures ∙ sym (ap (shown_columns _) (metadata_room _ _ ∙ room_fault unlimited 42 described a.s.now a.at h stop))

pub returns-then-past_names-end : goal.returns-then-past_names-end
returns-then-past_names-end c =
    let a = c.args in
    let h = span_here unlimited a.s.now a.at c.read_room.ensures c.in_ok-start.was in
    let go = columns_go _ _ c.read_described.ensures c.in_ok-types.was in
    sym (ap (shown_columns _) (metadata_room _ _ ∙ room_left unlimited 42 described a.s.now a.at h go.1 c.if-past_names-end.true))

pub returns : goal.returns
returns c =
    let a = c.args in
    let h = span_here unlimited a.s.now a.at c.read_room.ensures c.in_ok-start.was in
    let go = columns_go _ _ c.read_described.ensures c.in_ok-types.was in
    same_columns _ (types_place _ a.at go.2 h.place) go.3 ∙ sym (ap (shown_columns _) (metadata_room _ _ ∙ room_full unlimited 42 described a.s.now a.at h go.1 c.if-past_names-end.false))
