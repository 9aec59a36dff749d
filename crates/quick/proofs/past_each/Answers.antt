-- `quick::past_each` meets its contract: where those that are left end is where all end. Assumes nothing.
use mathlib.Core.Path.{◌≡◌, sym, ◌∙◌, ap}
use Prim.Native.Nat.{ℕ, ◌+◌, ◌-◌}
use native.Mathlib.Omega.{arith}
use Rattle.quick.proofs.past_each.Goals as goal

pub loop-i-init : goal.loop-i-init
loop-i-init g c =
    let a = c.args in
    let all : a.n - 0 ≡ a.n = omega arith in
    λ ends turns. ap (λ (k : ℕ). ends k a.from) all

pub returns-then-next-eq0 : goal.returns-then-next-eq0
returns-then-next-eq0 g c = (omega (arith, c.loop-i-test.true), c.loop-i.invariant)

pub loop-i-preserved : goal.loop-i-preserved
loop-i-preserved g c =
    let a = c.args in
    let l = c.loop-i in
    let left : a.n - l.i ≡ a.n - (l.i + 1) + 1 = omega (arith, c.loop-i-test.true) in
    λ ends turns.
    turns (a.n - (l.i + 1)) l.at c.past-next.result c.past-next.ensures (omega (arith, c.if-next-eq0.false))
    ∙ ap (λ (k : ℕ). ends k l.at) (sym left) ∙ l.invariant ends turns

pub returns : goal.returns
returns g c =
    let a = c.args in
    let l = c.loop-i in
    let all : a.n ≡ l.i = omega (arith, l.auto.i-end, c.loop-i-test.false) in
    (omega arith, λ ends turns. ap (λ (k : ℕ). ends (a.n - k) l.at) all ∙ l.invariant ends turns)
