-- `text::all_right` meets its contract: the bytes before the place that is looked at are right; the last 16 join them. Assumes nothing.
use mathlib.Core.Path.{sym}
use mathlib.Core.Bool.{true≢false}
use Prim.Native.Nat.{◌+◌, ◌-◌}
use native.Mathlib.Omega.{arith}
use borrow.Author.Tests.{not-false}
use Rattle.text.proofs.Runs.{run_join}
use Rattle.text.proofs.Windows.{RightAt}
use Rattle.text.proofs.all_right.Goals as goal

pub loop-i-init : goal.loop-i-init
loop-i-init c = (omega arith, omega (arith, c.requires.0), λ k h. absurd (omega arith))

pub returns-then-not-are_right : goal.returns-then-not-are_right
returns-then-not-are_right c = λ e. absurd (true≢false (sym e))

pub loop-i-preserved : goal.loop-i-preserved
loop-i-preserved c =
    let l = c.loop-i in
    let a = c.args in
    let more = c.loop-i-test.true in (
      omega (arith, l.invariant.0),
      omega (arith, more),
      run_join (RightAt a.b.now) a.start (l.i - a.start) l.i 16 (l.i + 16 - a.start) l.invariant.0 (omega (arith, l.invariant.0)) (omega (arith, l.invariant.0)) l.invariant.2
          (c.are_right.ensures (not-false _ c.if-not-are_right.false-raw)),
    )

pub returns : goal.returns
returns c =
    let l = c.loop-i in
    let a = c.args in
    let few = c.requires.0 in
    let near = c.loop-i-test.false in
    λ e. run_join (RightAt a.b.now) a.start (l.i - a.start) (a.end - 16) 16 (a.end - a.start) (omega (arith, few)) (omega (arith, near, l.invariant.0)) (omega (arith, few)) l.invariant.2 (c.are_right-2.ensures e)
