-- `numbers::list_response` meets its contract: number by number. Assumes nothing.
use mathlib.Core.Path.{◌≡◌, ap, ◌∙◌}
use mir.Syntax.{w8, w32}
use mir.Val.{SFits}
use mir.ValLaws.{to_z-of_z}
use Rattle.scan.specs.Signed.{unsigned}
use Rattle.numbers.proofs.Lent.{eight_bytes}
use borrow.Author.Rules.{rules}
use Rattle.numbers.proofs.list_response.Goals as goal

pub returns : goal.returns
returns c =
    let r = c.args.r in
    let version-fits : SFits w8 r.version = search rules in
    let version : c.wide8.result ≡ unsigned 8 r.version = c.wide8.ensures ∙ ap (unsigned 8) (to_z-of_z w8 r.version version-fits) in
    let status-fits : SFits w8 r.status = search rules in
    let status : c.wide8-2.result ≡ unsigned 8 r.status = c.wide8-2.ensures ∙ ap (unsigned 8) (to_z-of_z w8 r.status status-fits) in
    let app-fits : SFits w8 r.app_status = search rules in
    let app : c.wide8-3.result ≡ unsigned 8 r.app_status = c.wide8-3.ensures ∙ ap (unsigned 8) (to_z-of_z w8 r.app_status app-fits) in
    let trip-fits : SFits w32 r.round_trip = search rules in
    let trip : c.wide32.result ≡ unsigned 8 r.round_trip = c.wide32.ensures ∙ ap (unsigned 8) (to_z-of_z w32 r.round_trip trip-fits) in
    rw (version, status, app, trip, c.from_be_bytes.ensures ∙ eight_bytes r.client, c.shape_of-exception.ensures, c.shape_of-app.ensures, c.shape_of-status.ensures)
