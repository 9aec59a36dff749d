-- `record::block_at` meets its contract: where 8 bytes fit, they are those.
use mathlib.Core.Path.{◌≡◌, sym, ap, ◌∙◌}
use Prim.Native.Nat.{ℕ, ◌+◌, ◌-◌, ◌≤◌}
use lib.ListN.{length, take, drop}
use native.Mathlib.Omega.{arith}
use borrow.Author.Tests.{not-true, not-false, leb-true}
use Rattle.record.proofs.Fields.{block_is, block_none}
use Rattle.record.proofs.block_at.Goals as goal

pub returns-then-not-fits : goal.returns-then-not-fits
returns-then-not-fits c = block_none c.args.s.now c.args.at (sym c.fits.ensures ∙ not-true _ c.if-not-fits.true-raw)

pub overflow_add-result : goal.overflow_add-result
overflow_add-result c =
    let a = c.args in
    let fit : a.at + 8 ≤ length a.s.now = leb-true _ _ (sym c.fits.ensures ∙ not-false _ c.if-not-fits.false-raw) in
    omega arith

pub returns : goal.returns
returns c =
    let a = c.args in
    let size : a.at + 8 - a.at ≡ 8 = omega arith in
    let bytes = c.copy_from_slice.ensures.after ∙ ap (λ (k : ℕ). take k (drop a.at a.s.now)) size in
    block_is a.s.now a.at (sym c.fits.ensures ∙ not-false _ c.if-not-fits.false-raw) _ bytes
