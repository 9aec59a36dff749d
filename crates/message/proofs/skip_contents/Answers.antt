-- `message::skip_contents` meets its contract: the metadata, the count, and the rows from the part that is theirs. Assumes nothing.
use Rattle.format.proofs.Results.{handed_on}
use mathlib.Core.Path.{sym, ◌∙◌}
use native.Mathlib.Nat.{le_trans}
use lib.ListN.{take}
use lib.Seq.{length-take-le}
use native.Mathlib.Omega.{arith}
use Rattle.format.specs.Message.{unlimited, second, row}
use Rattle.scan.proofs.Answers.{shown_go, shown_stop}
use Rattle.scan.proofs.Params.{list_go, list_stop}
use Rattle.message.proofs.Rooms.{columns_go, columns_stop, contents_go, contents_stop, metadata_types, types_part, rows_same, count_took}
use Rattle.message.proofs.skip_contents.Goals as goal

pub slice_bounds-read_columns-end : goal.slice_bounds-read_columns-end
slice_bounds-read_columns-end c =
    let a = c.args in
    sym (length-take-le a.«end» a.m.now c.requires.1)

pub returns-in_err-types : goal.returns-in_err-types
returns-in_err-types c =
    let stop = columns_stop _ _ c.read_columns.ensures c.in_err-types.was in
    handed_on c.from_residual.ensures ∙ sym (contents_stop _ _ stop)

pub slice_bounds-read_row_count-end : goal.slice_bounds-read_row_count-end
slice_bounds-read_row_count-end c =
    let a = c.args in
    sym (length-take-le a.«end» a.m.now c.requires.1)

pub returns-in_err-k : goal.returns-in_err-k
returns-in_err-k c =
    let go = columns_go _ _ c.read_columns.ensures c.in_ok-types.was in
    let stop = shown_stop _ c.read_row_count.ensures c.in_err-k.was in
    handed_on c.from_residual-in_err-k.ensures ∙ sym (contents_go _ _ go.1 ∙ list_stop _ _ 4 unlimited 48 second (row go.0.types) stop)

pub overflow_add-past : goal.overflow_add-past
overflow_add-past c =
    let a = c.args in
    let go = columns_go _ _ c.read_columns.ensures c.in_ok-types.was in
    let part = types_part a.m.now a.start a.«end» _ _ go.0 (metadata_types _ _ _ _ go.1) c.requires.1 go.2 go.3 in
    omega (arith, part.0)

pub slice_bounds-skip_part-end : goal.slice_bounds-skip_part-end
slice_bounds-skip_part-end c =
    let a = c.args in
    let go = columns_go _ _ c.read_columns.ensures c.in_ok-types.was in
    let part = types_part a.m.now a.start a.«end» _ _ go.0 (metadata_types _ _ _ _ go.1) c.requires.1 go.2 go.3 in
    le_trans part.0 c.requires.1

pub skip_part-requires : goal.skip_part-requires
skip_part-requires c =
    let a = c.args in
    let count = shown_go _ c.read_row_count.ensures c.in_ok-k.was in
    let two = count_took 4 unlimited _ _ _ _ count in
    let whole = length-take-le a.«end» a.m.now c.requires.1 in
    (omega (arith, two.0, two.1), c.requires.1)

pub returns : goal.returns
returns c =
    let a = c.args in
    let go = columns_go _ _ c.read_columns.ensures c.in_ok-types.was in
    let part = types_part a.m.now a.start a.«end» _ _ go.0 (metadata_types _ _ _ _ go.1) c.requires.1 go.2 go.3 in
    let count = shown_go _ c.read_row_count.ensures c.in_ok-k.was in
    let k = c.in_ok-k.k in
    let rows = c.in_ok-k.rows in
    c.skip_part.ensures ∙ rows_same (take a.«end» a.m.now) rows k part.1 ∙ sym (contents_go _ _ go.1 ∙ list_go _ _ 4 unlimited 48 second (row go.0.types) count)
