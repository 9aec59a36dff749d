-- `tally::tally_row` meets its contract: a room, and the cells in it. Assumes nothing.
use Rattle.tally.proofs.Tours.{bytes_all}
use Rattle.tally.proofs.Tables.{walked_row, row_ended}
use Rattle.tally.proofs.Counts.{tallied_ended}
use Rattle.tally.proofs.tally_row.Goals as goal

pub returns : goal.returns
returns c =
    let a = c.args in
    let s = a.s.now in
    let b = bytes_all s c.type_inv.s in
    let types = a.types.now in
    tallied_ended (record { walks = λ ix. walked_row s b types ((c.tally_fixed-cells.ensures 49).walks ix) (c.tally_cells-last.ensures.walks ix) })
    c.room_end.ensures (row_ended s b a.tally.at types) c.ended_at.ensures
