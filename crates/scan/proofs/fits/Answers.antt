-- `scan::fits` meets its contract. Assumes nothing.
use mathlib.Core.Path.{◌≡◌, sym, ap, ◌∙◌}
use Prim.Native.Nat.{◌+◌, ◌-◌, ◌<◌, ◌≤◌}
use lib.ListN.{length}
use lib.Dec.{leb}
use native.Mathlib.Omega.{arith}
use borrow.Author.Tests.{lt-leb}
use Rattle.format.proofs.Results.{leb_add}
use Rattle.scan.proofs.fits.Goals as goal

pub returns-then-s-at : goal.returns-then-s-at
returns-then-s-at c =
    let a = c.args in
    let h : length a.s.now < a.at + a.n = omega arith in
    simp (lt-leb _ _ h)

pub returns : goal.returns
returns c =
    let a = c.args in
    let h : a.at ≤ length a.s.now = omega arith in
    let e : length a.s.now ≡ a.at + (length a.s.now - a.at) = omega arith in
    sym (ap (leb (a.at + a.n)) e ∙ leb_add a.at a.n (length a.s.now - a.at))
