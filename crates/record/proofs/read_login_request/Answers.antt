-- `record::read_login_request` meets its contract: by the version.
use mathlib.Core.Path.{◌∙◌}
use mir.Syntax.{w8}
use mir.ValLaws.{to_z-of_z}
use Rattle.record.proofs.Fields.{request_0, request_1}
use Rattle.record.proofs.read_login_request.Goals as goal

pub returns-then-version-ne1 : goal.returns-then-version-ne1
returns-then-version-ne1 c = c.read_login.ensures ∙ request_0 c.args.m.now c.number_at-first.result c.number_at-first.ensures c.if-version-ne1.true

pub returns : goal.returns
returns c =
    c.read_login-2.ensures
    ∙ request_1 c.args.m.now c.number_at-first.result c.number_at-second.result _ c.hash_size.result
    c.number_at-first.ensures
    c.number_at-second.ensures
    (to_z-of_z w8 _ (record { sfits = c.signed8.type_inv }) ∙ c.signed8.ensures)
    c.hash_size.ensures
    c.if-version-ne1.false
