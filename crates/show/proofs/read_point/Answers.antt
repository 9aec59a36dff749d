-- `show::read_point` meets its contract: the halves, then the rule, then whether it is null.
use Rattle.format.proofs.Results.{handed_on}
use Rattle.std.specs.Prelude.{Ok}
use mathlib.Core.Path.{sym, ap, ◌∙◌}
use Prim.Native.Nat.{◌+◌, ◌*◌, ◌^◌, ◌<◌}
use borrow.Author.Tests.{not-true, not-false}
use Rattle.format.specs.declared.Fault.TheVariants.{Point}
use Rattle.format.specs.Format.{number}
use Rattle.format.specs.Value.{point_fine}
use Rattle.scan.proofs.Steps.{ruled_go, ruled_bad, ruled_stop}
use Rattle.scan.proofs.Sixteen.{halves_go, halves_stop}
use Rattle.show.specs.Cells.{point_cell, shown_as}
use Rattle.show.proofs.Floats.{numeral}
use Rattle.show.proofs.Values.{halves_numbers, null_cell_lem, position_halves}
use Rattle.show.specs.declared.Cell.{Cell}
use native.Mathlib.Omega.{arith}
use Rattle.show.proofs.read_point.Goals as goal

pub returns-in_err-longitude : goal.returns-in_err-longitude
returns-in_err-longitude c =
    let stop = halves_stop _ c.read_halves.ensures c.in_err-longitude.was in
    handed_on c.from_residual.ensures ∙ sym (ap (shown_as point_cell) (ruled_stop point_fine Point (number 16 0) _ _ stop))

pub returns-then-not-point_fine : goal.returns-then-not-point_fine
returns-then-not-point_fine c =
    let go = halves_go _ c.read_halves.ensures c.in_ok-longitude.was in
    sym (ap (shown_as point_cell) (ruled_bad point_fine Point (number 16 0) _ _ go (sym c.point_fine.ensures ∙ not-true _ c.if-not-point_fine.true-raw)))

pub returns-then-is_null_point : goal.returns-then-is_null_point
returns-then-is_null_point c =
    let go = halves_go _ c.read_halves.ensures c.in_ok-longitude.was in
    sym (ap (λ (x : Cell). Ok (x, c.in_ok-longitude.next)) (null_cell_lem (c.in_ok-longitude.longitude * 2 ^ 64 + c.in_ok-longitude.latitude) (sym c.is_null_point.ensures ∙ c.if-is_null_point.true)))
    ∙ sym (ap (shown_as point_cell) (ruled_go point_fine Point (number 16 0) _ _ go (sym c.point_fine.ensures ∙ not-false _ c.if-not-point_fine.false-raw)))

pub float_from_bits-result : goal.float_from_bits-result
float_from_bits-result c =
    numeral c.in_ok-longitude.longitude (halves_numbers c.in_ok-longitude.longitude c.in_ok-longitude.latitude (omega arith) (sym c.point_fine.ensures ∙ not-false _ c.if-not-point_fine.false-raw)).0

pub float_from_bits-result-2 : goal.float_from_bits-result-2
float_from_bits-result-2 c =
    numeral c.in_ok-longitude.latitude (halves_numbers c.in_ok-longitude.longitude c.in_ok-longitude.latitude (omega arith) (sym c.point_fine.ensures ∙ not-false _ c.if-not-point_fine.false-raw)).1

pub returns : goal.returns
returns c =
    let low : c.in_ok-longitude.latitude < 2 ^ 64 = omega arith in
    let go = halves_go _ c.read_halves.ensures c.in_ok-longitude.was in
    let other = sym c.is_null_point.ensures ∙ c.if-is_null_point.false in
    sym (ap (λ (x : Cell). Ok (x, c.in_ok-longitude.next)) (position_halves c.in_ok-longitude.longitude c.in_ok-longitude.latitude low other))
    ∙ sym (ap (shown_as point_cell) (ruled_go point_fine Point (number 16 0) _ _ go (sym c.point_fine.ensures ∙ not-false _ c.if-not-point_fine.false-raw)))
