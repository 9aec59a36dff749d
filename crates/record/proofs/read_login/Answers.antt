-- `record::read_login` meets its contract: service, then user.
use mathlib.Core.Path.{◌∙◌}
use mir.Syntax.{w8}
use mir.ValLaws.{to_z-of_z}
use Rattle.record.proofs.Fields.{login_is}
use Rattle.record.proofs.read_login.Goals as goal

pub returns : goal.returns
returns c =
    let a = c.args in
    login_is a.m.now a.at a.version a.edition a.size _ c.text_at-first.result c.text_at-second.result
    (to_z-of_z w8 _ (record { sfits = c.signed8.type_inv }) ∙ c.signed8.ensures)
    c.text_at-first.ensures
    c.text_at-second.ensures
