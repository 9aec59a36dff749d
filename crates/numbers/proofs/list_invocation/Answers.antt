-- `numbers::list_invocation` meets its contract: number by number. Assumes nothing.
use mathlib.Core.Path.{◌≡◌, ap, ◌∙◌}
use mir.Syntax.{w8}
use mir.Val.{SFits}
use mir.ValLaws.{to_z-of_z}
use Rattle.scan.specs.Signed.{unsigned}
use Rattle.numbers.proofs.Lent.{eight_bytes}
use borrow.Author.Rules.{rules}
use Rattle.numbers.proofs.list_invocation.Goals as goal

pub returns : goal.returns
returns c =
    let r = c.args.r in
    let version-fits : SFits w8 r.version = search rules in
    let version : c.wide8.result ≡ unsigned 8 r.version = c.wide8.ensures ∙ ap (unsigned 8) (to_z-of_z w8 r.version version-fits) in
    rw (version, c.shape_of-procedure.ensures, c.from_be_bytes.ensures ∙ eight_bytes r.client)
