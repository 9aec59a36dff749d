-- `scan::read_byte` meets its contract. Assumes nothing.
use Prim.Native.Nat.{◌+◌}
use lib.ListN.{length}
use native.Mathlib.Omega.{arith}
use borrow.Author.Tests.{le-leb, lt-leb}
use Rattle.format.specs.Format.{number}
use Rattle.scan.proofs.Params.{byte_is}
use Rattle.scan.proofs.read_byte.Goals as goal

pub returns-then-s-at : goal.returns-then-s-at
unfolding number
returns-then-s-at c =
    let a = c.args in
    rw (lt-leb (a.at + 1) (length a.s.now) (omega arith))

pub returns : goal.returns
unfolding number
returns c =
    let a = c.args in
    rw (le-leb (a.at + 1) (length a.s.now) (omega arith), byte_is a.s.now a.at)
