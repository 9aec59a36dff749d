-- `tour::walk_flagged` meets its contract: field after field. Assumes nothing.
use Rattle.std.proofs.Common.{true, false, ◌∙◌}
use mathlib.Core.Option.{none}
use Rattle.format.specs.Text.{utf8}
use Rattle.format.specs.Value.{anything}
use Rattle.format.specs.Message.{binary, null_text}
use Rattle.format.proofs.Laws.{lawful_number}
use Rattle.tally.proofs.Tours.{bytes_all, walked_then}
use Rattle.tour.proofs.Contents.{lawful_noted, lawful_trip, walked_if}
use Rattle.tour.proofs.walk_flagged.Goals as goal

pub shape_of-out : goal.shape_of-out
shape_of-out c = c.walk_optional.auto.out ∙ (c.walk_trip-exception.auto.out ∙ (c.walk_optional-trip.auto.out ∙ (c.walk_fixed-words.auto.out ∙ (c.walk_optional-application.auto.out ∙ (c.walk_fixed-string.auto.out)))))

pub returns : goal.returns
returns c =
    let a = c.args in
    let s = a.s.now in
    let b = bytes_all s c.type_inv.s in
    walked_then s b (lawful_noted 1 31 _ true utf8 32 33) (walked_then s b (lawful_number 1 31) c.walk_fixed-string.ensures (walked_if none (null_text 32 33) c.has_flag.ensures (c.walk_optional-application.ensures true utf8)))
    (walked_then s b (lawful_noted 1 34 _ true utf8 35 36) (walked_then s b (lawful_number 1 34) c.walk_fixed-words.ensures (walked_if none (null_text 35 36) c.has_flag-2.ensures (c.walk_optional-trip.ensures true utf8)))
    (walked_then s b (lawful_trip a.timed) c.walk_trip-exception.ensures (walked_if none (binary 38 39) c.has_flag-3.ensures (c.walk_optional.ensures false anything))))
