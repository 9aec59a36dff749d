-- `scan::read_number` meets its contract: after i turns n is what i bytes gave. Assumes nothing.
use mathlib.Core.Path.{sym, ◌∙◌}
use Prim.Native.Nat.{◌+◌, ◌<◌}
use lib.Dec.{lit<}
use native.Mathlib.Nat.{min-le_right}
use native.Mathlib.Omega.{arith}
use borrow.Author.Rules.{rules}
use borrow.Author.Tests.{not-true, not-false, leb-true}
use Rattle.format.specs.Format.{number}
use Rattle.scan.proofs.Digits.{read_none, read_more, read_all, byte_more, byte_fits}
use Rattle.scan.proofs.read_number.Goals as goal

pub returns-then-not-fits : goal.returns-then-not-fits
unfolding number
returns-then-not-fits c =
    let short = sym c.fits.ensures ∙ not-true _ c.if-not-fits.true-raw in
    simp (← c.at_most_8-width.ensures, short)

pub loop-i-init : goal.loop-i-init
loop-i-init c =
    let long = sym c.fits.ensures ∙ not-false _ c.if-not-fits.false-raw in
    let small = c.at_most_8-width.ensures in
    (read_none _ _ _, omega arith, leb-true _ _ long, rw small (min-le_right _ 8))

pub overflow_mul-n : goal.overflow_mul-n
overflow_mul-n c = omega (arith, byte_fits c.loop-i.n 0 c.loop-i.i c.loop-i.invariant.1 (lit< tt) (omega arith))

pub overflow_add-n : goal.overflow_add-n
overflow_add-n c =
    let l = c.loop-i in
    let a = c.args in
    let byte : c.wide.result < 256 = omega (arith, c.wide.ensures, c.type_inv.s (a.at + l.i)) in
    record { fits = byte_fits _ _ _ l.invariant.1 byte (omega arith) }

pub loop-i-preserved : goal.loop-i-preserved
loop-i-preserved c =
    let l = c.loop-i in
    let a = c.args in
    let byte : c.wide.result < 256 = omega (arith, c.wide.ensures, c.type_inv.s (a.at + l.i)) in (
      rw c.wide.ensures (read_more _ _ _ l.n l.i c.loop-i-test.true l.invariant.0),
      byte_more _ _ _ l.invariant.1 byte,
      search rules,
      search rules,
    )

pub returns : goal.returns
unfolding number
returns c =
    let l = c.loop-i in
    let a = c.args in
    let long = sym c.fits.ensures ∙ not-false _ c.if-not-fits.false-raw in
    let all = read_all _ _ _ l.n l.i (omega (arith, l.auto.i-end, c.loop-i-test.false)) l.invariant.0 in
    simp (← c.at_most_8-width.ensures, long, ← all)
