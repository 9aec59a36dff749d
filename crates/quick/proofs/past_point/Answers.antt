-- `quick::past_point` meets its contract: the halves pass the rule. Assumes nothing.
use mathlib.Core.Path.{sym, ap₂, ◌∙◌}
use Prim.Native.Nat.{ℕ, ◌+◌, ◌*◌, ◌^◌}
use native.Mathlib.Omega.{arith}
use Rattle.format.specs.declared.Fault.TheVariants.{Point}
use Rattle.format.specs.Value.{point_fine}
use Rattle.quick.proofs.Bodies.{sixteen_past}
use Rattle.quick.proofs.past_point.Goals as goal

pub returns-then-s-at : goal.returns-then-s-at
returns-then-s-at c = λ there. absurd (omega arith)

pub returns-then-point_fine : goal.returns-then-point_fine
returns-then-point_fine c =
    let a = c.args in
    let halves = ap₂ (λ (x y : ℕ). point_fine (x * 2 ^ 64 + y)) c.eight.ensures c.eight-2.ensures in
    sixteen_past a.s.now a.at point_fine Point (sym halves ∙ sym c.point_fine.ensures ∙ c.if-point_fine.true)

pub returns : goal.returns
returns c = λ there. absurd (omega arith)
