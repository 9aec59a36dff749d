-- `scan::is_null_point` meets its contract: the halves of the number are its two arguments. Assumes nothing.
use lib.Arith.{digits_div, digits_mod}
use borrow.Author.Tests.{eq-eqb, ne_eqb}
use Rattle.scan.proofs.is_null_point.Goals as goal

pub returns-then-longitude-eq-DEGREES_360 : goal.returns-then-longitude-eq-DEGREES_360
returns-then-longitude-eq-DEGREES_360 c =
    let a = c.args in
    let small = c.ranges.latitude.fits in
    rw (digits_div a.longitude small, digits_mod a.longitude small, eq-eqb _ _ c.if-longitude-eq-DEGREES_360.true)

pub returns-else-longitude-eq-DEGREES_360 : goal.returns-else-longitude-eq-DEGREES_360
returns-else-longitude-eq-DEGREES_360 c =
    let a = c.args in
    let small = c.ranges.latitude.fits in
    rw (digits_div a.longitude small, ne_eqb _ _ c.if-longitude-eq-DEGREES_360.false)
