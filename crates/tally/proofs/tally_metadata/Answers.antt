-- `tally::tally_metadata` meets its contract: a room, and its fields in it. Assumes nothing.
use Rattle.format.specs.Message.{most_columns}
use Rattle.format.proofs.Laws.{lawful_number}
use Rattle.scan.proofs.Answers.{number_stands}
use Rattle.tally.proofs.Tours.{bytes_all, walked_then, walked_by}
use Rattle.tally.proofs.Values.{lawful_count, count_told}
use Rattle.tally.proofs.Tables.{columns, lawful_types, walked_count, walked_metadata, metadata_ended}
use Rattle.tally.proofs.Counts.{tallied_ended}
use Rattle.tally.proofs.tally_metadata.Goals as goal

pub returns : goal.returns
returns c =
    let a = c.args in
    let s = a.s.now in
    let b = bytes_all s c.type_inv.s in
    let n = c.number_at-n in
    tallied_ended (record {
      walks = λ ix.
          walked_metadata s b ((c.tally_fixed-status.ensures 42).walks ix) (walked_then s b (lawful_number 1 43) ((c.tally_fixed-count.ensures 43).walks ix)
          (walked_by s b columns (lawful_count 2 most_columns 44) (count_told s 2 most_columns 44 _ (number_stands n.ensures)) (walked_count s b 2 most_columns 44 ((c.tally_fixed-types.ensures 44).walks ix))
          (walked_then s b (lawful_types n.result) (c.tally_types-names.ensures.walks ix) (c.tally_names-last.ensures.walks ix))));
    })
    c.room_end.ensures (metadata_ended s b a.tally.at) c.ended_at.ensures
