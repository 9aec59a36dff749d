-- `numbers::list_login_response` meets its contract: number by number. Assumes nothing.
use mathlib.Core.Path.{◌≡◌, ap, ◌∙◌}
use mir.Syntax.{w8, w32, w64}
use mir.Val.{SFits}
use mir.ValLaws.{to_z-of_z}
use Rattle.scan.specs.Signed.{unsigned}
use Rattle.numbers.proofs.Lent.{four_bytes}
use borrow.Author.Rules.{rules}
use Rattle.numbers.proofs.list_login_response.Goals as goal

pub returns : goal.returns
returns c =
    let r = c.args.r in
    let version-fits : SFits w8 r.version = search rules in
    let version : c.wide8.result ≡ unsigned 8 r.version = c.wide8.ensures ∙ ap (unsigned 8) (to_z-of_z w8 r.version version-fits) in
    let result_fits : SFits w8 r.result = search rules in
    let result : c.wide8-2.result ≡ unsigned 8 r.result = c.wide8-2.ensures ∙ ap (unsigned 8) (to_z-of_z w8 r.result result_fits) in
    let host-fits : SFits w32 r.host = search rules in
    let host : c.wide32.result ≡ unsigned 8 r.host = c.wide32.ensures ∙ ap (unsigned 8) (to_z-of_z w32 r.host host-fits) in
    let connection-fits : SFits w64 r.connection = search rules in
    let connection : c.unsigned64.result ≡ unsigned 8 r.connection = c.unsigned64.ensures ∙ ap (unsigned 8) (to_z-of_z w64 r.connection connection-fits) in
    let start_fits : SFits w64 r.start = search rules in
    let start : c.unsigned64-2.result ≡ unsigned 8 r.start = c.unsigned64-2.ensures ∙ ap (unsigned 8) (to_z-of_z w64 r.start start_fits) in
    let leader = c.from_be_bytes.ensures ∙ four_bytes r.leader in
    rw (version, result, host, connection, start, leader, c.there.ensures, c.shape_of-build.ensures)
