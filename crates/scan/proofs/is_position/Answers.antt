-- `scan::is_position` meets its contract. Assumes nothing.
use lib.Arith.{digits_div, digits_mod}
use borrow.Author.Tests.{le-leb, lt-leb}
use Rattle.scan.proofs.is_position.Goals as goal

pub returns-then-longitude-le4640537203540230144 : goal.returns-then-longitude-le4640537203540230144
returns-then-longitude-le4640537203540230144 c =
    let a = c.args in
    let small = c.ranges.latitude.fits in
    rw (digits_div a.longitude small, digits_mod a.longitude small, le-leb _ _ c.if-longitude-le4640537203540230144.true)

pub returns-else-longitude-le4640537203540230144 : goal.returns-else-longitude-le4640537203540230144
returns-else-longitude-le4640537203540230144 c =
    let a = c.args in
    let small = c.ranges.latitude.fits in
    rw (digits_div a.longitude small, lt-leb _ _ c.if-longitude-le4640537203540230144.false)
