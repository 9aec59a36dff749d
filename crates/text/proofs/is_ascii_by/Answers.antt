-- `text::is_ascii_by` meets its contract: the bytes before the place that is looked at are all ASCII; the last ones, looked at first, join them. Assumes nothing.
use mathlib.Core.Path.{◌≡◌, sym, subst}
use mathlib.Core.Bool.{true≢false}
use Prim.Native.Nat.{◌+◌, ◌-◌}
use lib.ListN.{length}
use native.Mathlib.Omega.{arith}
use borrow.Author.Tests.{not-false}
use Rattle.text.specs.Shown.{LowRun}
use Rattle.text.proofs.Runs.{low_none, low_join}
use Rattle.text.proofs.is_ascii_by.Goals as goal

pub returns-then-not-are_low : goal.returns-then-not-are_low
returns-then-not-are_low c = λ e. absurd (true≢false (sym e))

pub loop-i-init : goal.loop-i-init
loop-i-init c = (omega arith, low_none c.args.b.now 0)

pub returns-then-not-are_low-2 : goal.returns-then-not-are_low-2
returns-then-not-are_low-2 c = λ e. absurd (true≢false (sym e))

pub loop-i-preserved : goal.loop-i-preserved
loop-i-preserved c =
    let l = c.loop-i in
    let a = c.args in
    let b = a.b.now in (
      omega (arith, c.loop-i-test.true),
      low_join b l.i l.i a.step (omega arith) l.invariant.1 (c.are_low-in-loop-i.ensures (not-false _ c.if-not-are_low-2.false-raw)),
    )

pub returns : goal.returns
returns c =
    let l = c.loop-i in
    let b = c.args.b.now in
    let step = c.args.step in
    let end : length b - step + step ≡ length b = omega (arith, c.requires.1) in
    let last = c.are_low.ensures (not-false _ c.if-not-are_low.false-raw) in
    λ e. subst (LowRun b 0) end (low_join b l.i (length b - step) step (omega (arith, c.loop-i-test.false)) l.invariant.1 last)
