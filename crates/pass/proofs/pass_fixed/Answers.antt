-- `pass::pass_fixed` meets its contract: the place past the bytes, where they stand.
use Prim.Native.Nat.{◌+◌, ◌≤◌, ◌<◌}
use mathlib.Core.Path.{refl, sym, ◌∙◌}
use lib.ListN.{length}
use native.Mathlib.Omega.{arith}
use borrow.Author.Tests.{leb-true, leb-false, not-true, not-false}
use Rattle.pass.proofs.Parts.{passes_number}
use Rattle.pass.proofs.pass_fixed.Goals as goal

pub returns-then-not-fits : goal.returns-then-not-fits
returns-then-not-fits c =
    λ field.
    let a = c.args in
    let over : length a.s.now < a.at + a.n = leb-false _ _ (sym c.fits.ensures ∙ not-true _ c.if-not-fits.true-raw) in
    passes_number a.s.now a.n field (λ h. absurd (omega arith))

pub overflow_add-result : goal.overflow_add-result
overflow_add-result c =
    let a = c.args in
    let fit : a.at + a.n ≤ length a.s.now = leb-true _ _ (sym c.fits.ensures ∙ not-false _ c.if-not-fits.false-raw) in
    omega arith

pub returns : goal.returns
returns c = λ field. let a = c.args in passes_number a.s.now a.n field (λ h. refl)
