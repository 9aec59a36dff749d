-- `record::read_invocation` meets its contract: field by field.
use mathlib.Core.Path.{◌∙◌}
use mir.Syntax.{w8}
use mir.ValLaws.{to_z-of_z}
use Rattle.record.proofs.Fields.{invocation_is}
use Rattle.record.proofs.read_invocation.Goals as goal

pub returns : goal.returns
returns c =
    invocation_is c.args.m.now c.number_at-version.result c.text_at-text.result c.block_at-data.result c.number_at-count.result _
    c.number_at-version.ensures
    c.text_at-text.ensures
    c.block_at-data.ensures
    c.number_at-count.ensures
    (to_z-of_z w8 _ (record { sfits = c.signed8.type_inv }) ∙ c.signed8.ensures)
