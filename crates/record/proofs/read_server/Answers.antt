-- `record::read_server` meets its contract: field by field, at fixed places.
use mathlib.Core.Path.{◌∙◌}
use mir.Syntax.{w8, w32, w64}
use mir.ValLaws.{to_z-of_z}
use Rattle.record.proofs.Fields.{four_is, server_is}
use Rattle.record.proofs.read_server.Goals as goal

pub returns : goal.returns
returns c =
    let a = c.args in
    server_is a.m.now a.version a.res
    c.number_at-host.result c.number_at-connection.result c.number_at-start.result c.number_at-address.result c.text_at-text.result _ _ _ _ _ c.to_be_bytes-leader.result
    c.number_at-host.ensures
    c.number_at-connection.ensures
    c.number_at-start.ensures
    c.number_at-address.ensures
    c.text_at-text.ensures
    (to_z-of_z w8 _ (record { sfits = c.signed8.type_inv }) ∙ c.signed8.ensures)
    (to_z-of_z w8 _ (record { sfits = c.signed8-2.type_inv }) ∙ c.signed8-2.ensures)
    (to_z-of_z w32 _ (record { sfits = c.signed32.type_inv }) ∙ c.signed32.ensures)
    (to_z-of_z w64 _ (record { sfits = c.signed64.type_inv }) ∙ c.signed64.ensures)
    (to_z-of_z w64 _ (record { sfits = c.signed64-2.type_inv }) ∙ c.signed64-2.ensures)
    (c.to_be_bytes-leader.ensures ∙ four_is c.number_at-address.result.value)
