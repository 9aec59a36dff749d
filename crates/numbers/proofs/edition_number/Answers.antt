-- `numbers::edition_number` meets its contract, case by case. Assumes nothing.
use mathlib.Core.Path.{sym, ap, ◌∙◌}
use mir.Syntax.{w8}
use mir.Val.{SFits}
use mir.ValLaws.{to_z-of_z}
use Rattle.scan.specs.Signed.{unsigned}
use Rattle.numbers.specs.Records.{edition_number}
use borrow.Author.Rules.{rules}
use Rattle.numbers.proofs.edition_number.Goals as goal

pub returns-in-Some : goal.returns-in-Some
returns-in-Some c =
    let f : SFits w8 c.in-Some.z = search rules in
    c.wide8.ensures ∙ ap (unsigned 8) (to_z-of_z w8 c.in-Some.z f) ∙ sym (ap edition_number c.in-Some.is)
