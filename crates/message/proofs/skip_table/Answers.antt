-- `message::skip_table` meets its contract: a room, and the metadata and rows in it. Assumes nothing.
use Rattle.format.proofs.Results.{handed_on}
use Rattle.std.specs.Prelude.{Ok}
use mathlib.Core.Path.{sym, ap, ◌∙◌}
use Rattle.format.specs.Message.{unlimited}
use Rattle.scan.specs.Shown.{shown_next}
use Rattle.scan.proofs.Answers.{span_stop, next_go, next_stop}
use Rattle.scan.proofs.Counted.{span_here, room_stop, room_fault, room_left, room_full}
use Rattle.message.specs.Inner.{contents}
use Rattle.message.proofs.Rooms.{table_room}
use Rattle.message.proofs.skip_table.Goals as goal

pub returns-in_err-start : goal.returns-in_err-start
returns-in_err-start c =
    let a = c.args in
    let stop = span_stop a.at _ c.read_room.ensures c.in_err-start.was in
    handed_on c.from_residual.ensures ∙ sym (ap shown_next (table_room _ _ ∙ room_stop unlimited 41 contents a.m.now a.at stop))

pub skip_contents-requires : goal.skip_contents-requires
skip_contents-requires c =
    let a = c.args in
    let h = span_here unlimited a.m.now a.at c.read_room.ensures c.in_ok-start.was in
    (h.order, h.fit)

pub returns-in_err-past_rows : goal.returns-in_err-past_rows
returns-in_err-past_rows c =
    let a = c.args in
    let h = span_here unlimited a.m.now a.at c.read_room.ensures c.in_ok-start.was in
    let stop = next_stop _ c.skip_contents.ensures c.in_err-past_rows.was in
    handed_on c.from_residual-in_err-past_rows.ensures ∙ sym (ap shown_next (table_room _ _ ∙ room_fault unlimited 41 contents a.m.now a.at h stop))

pub returns-then-past_rows-end : goal.returns-then-past_rows-end
returns-then-past_rows-end c =
    let a = c.args in
    let h = span_here unlimited a.m.now a.at c.read_room.ensures c.in_ok-start.was in
    let go = next_go _ c.skip_contents.ensures c.in_ok-past_rows.was in
    sym (ap shown_next (table_room _ _ ∙ room_left unlimited 41 contents a.m.now a.at h go.1 c.if-past_rows-end.true))

pub returns : goal.returns
returns c =
    let a = c.args in
    let h = span_here unlimited a.m.now a.at c.read_room.ensures c.in_ok-start.was in
    let go = next_go _ c.skip_contents.ensures c.in_ok-past_rows.was in
    ap Ok (sym c.if-past_rows-end.false) ∙ sym (ap shown_next (table_room _ _ ∙ room_full unlimited 41 contents a.m.now a.at h go.1 c.if-past_rows-end.false))
