-- `tally::tally_table` meets its contract: a room, the metadata in it, and the rows by its types. Assumes nothing.
use Rattle.format.specs.Message.{second, unlimited}
use Rattle.format.proofs.Formats.{lawful_metadata, lawful_row}
use Rattle.tally.proofs.Tours.{bytes_all, walked_both}
use Rattle.tally.proofs.Values.{walked_list}
use Rattle.tally.proofs.Tables.{rows, walked_table, table_ended}
use Rattle.tally.proofs.Counts.{tallied_ended}
use Rattle.tally.proofs.tally_table.Goals as goal

pub returns : goal.returns
returns c =
    let a = c.args in
    let s = a.s.now in
    let b = bytes_all s c.type_inv.s in
    tallied_ended {last = c.tally_rows-last.result} (record {
      walks = λ ix.
          walked_table s b ((c.tally_fixed-metadata.ensures 41).walks ix) (walked_both b {g = rows} lawful_metadata (c.tally_metadata-count.ensures.walks ix) (λ m next e.
          let same = c.types_of-types.ensures m next e in
          rw (← same) (walked_list 4 unlimited 48 second (lawful_row _) s b c.length_at-n.ensures ((c.tally_fixed-rows.ensures 48).walks ix) (c.tally_rows-last.ensures.walks ix))));
    })
    c.room_end.ensures (table_ended s b a.tally.at) c.ended_at.ensures
