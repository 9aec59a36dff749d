-- `quick::past_decimal` meets its contract: the upper half lies between those of the ends, or both halves are the null's. Assumes nothing.
use mathlib.Core.Path.{◌≡◌, ◌∙◌}
use Prim.Native.Nat.{◌+◌, ◌<◌}
use native.Mathlib.Omega.{arith}
use borrow.Author.Tests.{eq-eqb}
use Rattle.format.specs.declared.Fault.TheVariants.{Decimal}
use Rattle.format.specs.Number.{num_at}
use Rattle.format.specs.Value.{decimal_fine}
use Rattle.scan.proofs.Decimals.{small, large, at_null}
use Rattle.quick.proofs.Numbers.{few}
use Rattle.quick.proofs.Bodies.{sixteen_past}
use Rattle.quick.proofs.past_decimal.Goals as goal

pub returns-then-s-at : goal.returns-then-s-at
returns-then-s-at c = λ there. absurd (omega arith)

pub returns-then-upper-lt5421010862427522170 : goal.returns-then-upper-lt5421010862427522170
returns-then-upper-lt5421010862427522170 c =
    let a = c.args in
    let low = few a.s.now (λ k. omega (arith, c.type_inv.s k)) 8 (a.at + 8) in
    let below : num_at 8 a.s.now a.at < 5421010862427522170 = omega (arith, c.eight-upper.ensures, c.if-upper-lt5421010862427522170.true) in
    sixteen_past a.s.now a.at decimal_fine Decimal (small _ _ low below)

pub returns-then-upper-gt13025733211282029445 : goal.returns-then-upper-gt13025733211282029445
returns-then-upper-gt13025733211282029445 c =
    let a = c.args in
    let low = few a.s.now (λ k. omega (arith, c.type_inv.s k)) 8 (a.at + 8) in
    let above : 13025733211282029445 < num_at 8 a.s.now a.at = omega (arith, c.eight-upper.ensures, c.if-upper-gt13025733211282029445.true) in
    sixteen_past a.s.now a.at decimal_fine Decimal (large _ _ low above)

pub returns-then-upper : goal.returns-then-upper
returns-then-upper c = λ there. absurd (omega arith)

pub returns-then-eight-ne0 : goal.returns-then-eight-ne0
returns-then-eight-ne0 c = λ there. absurd (omega arith)

pub returns : goal.returns
returns c =
    let a = c.args in
    let low = few a.s.now (λ k. omega (arith, c.type_inv.s k)) 8 (a.at + 8) in
    let null : num_at 8 a.s.now a.at ≡ 9223372036854775808 = omega (arith, c.eight-upper.ensures, c.if-upper.false) in
    let rest : num_at 8 a.s.now (a.at + 8) ≡ 0 = omega (arith, c.eight.ensures, c.if-eight-ne0.false) in
    sixteen_past a.s.now a.at decimal_fine Decimal (at_null _ _ low null ∙ eq-eqb _ _ rest)
