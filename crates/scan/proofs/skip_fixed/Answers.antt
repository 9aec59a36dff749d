-- `scan::skip_fixed` meets its contract. Assumes nothing.
use mathlib.Core.Path.{sym, ◌∙◌}
use Prim.Native.Nat.{◌+◌, ◌≤◌}
use lib.ListN.{length}
use native.Mathlib.Omega.{arith}
use borrow.Author.Tests.{not-true, not-false, leb-true}
use Rattle.format.specs.Format.{number}
use Rattle.scan.proofs.skip_fixed.Goals as goal

pub returns-then-not-fits : goal.returns-then-not-fits
unfolding number
returns-then-not-fits c = rw (sym c.fits.ensures ∙ not-true _ c.if-not-fits.true-raw)

pub overflow_add-result : goal.overflow_add-result
overflow_add-result c =
    let a = c.args in
    let fit : a.at + a.width ≤ length a.s.now = leb-true _ _ (sym c.fits.ensures ∙ not-false _ c.if-not-fits.false-raw) in
    omega arith

pub returns : goal.returns
unfolding number
returns c = rw (sym c.fits.ensures ∙ not-false _ c.if-not-fits.false-raw)
