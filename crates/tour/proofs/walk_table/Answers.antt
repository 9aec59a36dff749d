-- `tour::walk_table` meets its contract: a room, the metadata in it, and the rows by its types. Assumes nothing.
use Rattle.std.proofs.Common.{◌∙◌}
use Rattle.format.specs.Message.{second, unlimited}
use Rattle.format.proofs.Formats.{lawful_metadata, lawful_row}
use Rattle.scan.proofs.Answers.{number_stands}
use Rattle.tally.proofs.Tours.{bytes_all, walked_both}
use Rattle.tally.proofs.Values.{walked_list}
use Rattle.tally.proofs.Tables.{rows, walked_table}
use Rattle.tour.proofs.walk_table.Goals as goal

pub shape_of-out : goal.shape_of-out
shape_of-out c = c.walk_rows.auto.out ∙ (c.walk_fixed-rows.auto.out ∙ (c.pass_metadata-count.auto.out ∙ c.walk_fixed-metadata.auto.out))

pub returns : goal.returns
returns c =
    let a = c.args in
    let s = a.s.now in
    let b = bytes_all a.s.now c.type_inv.s in
    walked_table s b c.walk_fixed-metadata.ensures (walked_both b {g = rows} lawful_metadata c.pass_metadata-count.ensures (λ m next e.
    let same = c.types_of-types.ensures m next e in
    rw (← same) (walked_list 4 unlimited 48 second (lawful_row _) s b (number_stands c.number_at-n.ensures) c.walk_fixed-rows.ensures c.walk_rows.ensures)))
