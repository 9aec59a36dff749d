-- `quick::two` meets its contract: its bytes, each at its place. Assumes nothing.
use native.Mathlib.Omega.{arith}
use Rattle.quick.proofs.Numbers.{two_is}
use Rattle.quick.proofs.two.Goals as goal

pub returns : goal.returns
returns c =
    let a = c.args in
    let first = c.wide-a.ensures in
    let last = c.wide-b.ensures in
    (rw (first.0, last.0) (two_is a.s.now a.at), omega (arith, first.1, last.1))
