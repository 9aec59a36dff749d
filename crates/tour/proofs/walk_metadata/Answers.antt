-- `tour::walk_metadata` meets its contract: a room, and its fields in it. Assumes nothing.
use Rattle.std.proofs.Common.{◌∙◌}
use Rattle.format.specs.Message.{most_columns}
use Rattle.format.proofs.Laws.{lawful_number}
use Rattle.scan.proofs.Answers.{number_stands}
use Rattle.tally.proofs.Tours.{bytes_all, walked_then, walked_by}
use Rattle.tally.proofs.Values.{lawful_count, count_told}
use Rattle.tally.proofs.Tables.{columns, lawful_types, walked_count, walked_metadata}
use Rattle.tour.proofs.walk_metadata.Goals as goal

pub shape_of-out : goal.shape_of-out
shape_of-out c = c.walk_names.auto.out ∙ (c.walk_types-names.auto.out ∙ (c.walk_fixed-types.auto.out ∙ (c.walk_fixed-count.auto.out ∙ c.walk_fixed-status.auto.out)))

pub returns : goal.returns
returns c =
    let a = c.args in
    let s = a.s.now in
    let b = bytes_all a.s.now c.type_inv.s in
    walked_metadata s b c.walk_fixed-status.ensures (walked_then s b (lawful_number 1 43) c.walk_fixed-count.ensures
    (walked_by s b columns (lawful_count 2 most_columns 44) (count_told s 2 most_columns 44 _ (number_stands c.number_at-n.ensures)) (walked_count s b 2 most_columns 44 c.walk_fixed-types.ensures)
    (walked_then s b (lawful_types c.number_at-n.result) c.walk_types-names.ensures c.walk_names.ensures)))
