-- `record::read_flagged` meets its contract: field by field.
use mathlib.Core.Path.{◌∙◌}
use mir.Syntax.{w8, w32}
use mir.ValLaws.{to_z-of_z}
use Rattle.record.proofs.Records.{reply_is}
use Rattle.record.proofs.read_flagged.Goals as goal

pub returns : goal.returns
returns c =
    let a = c.args in
    reply_is a.timed a.m.now a.version a.flags c.trip_size.result a.client c.has_flag.result c.has_flag-2.result c.has_flag-3.result
    c.noted_at-status.result c.noted_at-app.result c.noted_at-trip.result c.number_at-count.result _ _ _ _
    c.trip_size.ensures
    c.has_flag.ensures
    c.has_flag-2.ensures
    c.has_flag-3.ensures
    c.noted_at-status.ensures
    c.noted_at-app.ensures
    c.noted_at-trip.ensures
    c.number_at-count.ensures
    (to_z-of_z w8 _ (record { sfits = c.signed8.type_inv }) ∙ c.signed8.ensures)
    (to_z-of_z w8 _ (record { sfits = c.signed8-2.type_inv }) ∙ c.signed8-2.ensures)
    (to_z-of_z w8 _ (record { sfits = c.signed8-3.type_inv }) ∙ c.signed8-3.ensures)
    (to_z-of_z w32 _ (record { sfits = c.signed32.type_inv }) ∙ c.signed32.ensures)
