-- `show::read_decimal` meets its contract: the halves, then the rule on the signed upper half.
use Rattle.format.proofs.Results.{handed_on}
use Rattle.std.specs.Prelude.{Ok}
use mathlib.Core.Path.{sym, ap, ◌∙◌}
use Prim.Native.Nat.{ℕ, ◌+◌, ◌*◌, ◌^◌, ◌<◌}
use lib.IntN.{ℤ}
use mir.Syntax.{w64}
use mir.ValLaws.{to_z-of_z}
use borrow.Author.Tests.{not-true, not-false}
use Rattle.format.specs.declared.Fault.TheVariants.{Decimal}
use Rattle.format.specs.Format.{number}
use Rattle.format.specs.Value.{decimal_fine}
use Rattle.scan.proofs.Steps.{ruled_go, ruled_bad, ruled_stop}
use Rattle.scan.proofs.Sixteen.{halves_go, halves_stop}
use Rattle.show.specs.declared.Cell.{Cell}
use Rattle.scan.specs.Signed.{unsigned}
use Rattle.show.specs.Cells.{decimal_cell, shown_as}
use Rattle.scan.proofs.Twos.{signed_back}
use Rattle.show.proofs.Values.{decimal_halves}
use native.Mathlib.Omega.{arith}
use Rattle.show.proofs.read_decimal.Goals as goal

pub returns-in_err-high : goal.returns-in_err-high
returns-in_err-high c =
    let stop = halves_stop _ c.read_halves.ensures c.in_err-high.was in
    handed_on c.from_residual.ensures ∙ sym (ap (shown_as decimal_cell) (ruled_stop decimal_fine Decimal (number 16 0) _ _ stop))

pub returns-then-not-decimal_fine : goal.returns-then-not-decimal_fine
returns-then-not-decimal_fine c =
    let upper = to_z-of_z w64 _ (record { sfits = c.signed64-upper.type_inv }) ∙ c.signed64-upper.ensures in
    let bits = ap (unsigned 8) upper ∙ signed_back 8 c.in_ok-high.high (omega arith) in
    let go = halves_go _ c.read_halves.ensures c.in_ok-high.was in
    let bad = sym (ap (λ (n : ℕ). decimal_fine (n * 2 ^ 64 + c.in_ok-high.lower)) bits) ∙ sym c.decimal_fine.ensures ∙ not-true _ c.if-not-decimal_fine.true-raw in
    sym (ap (shown_as decimal_cell) (ruled_bad decimal_fine Decimal (number 16 0) _ _ go bad))

pub returns : goal.returns
returns c =
    let low : c.in_ok-high.lower < 2 ^ 64 = omega arith in
    let upper = to_z-of_z w64 _ (record { sfits = c.signed64-upper.type_inv }) ∙ c.signed64-upper.ensures in
    let bits = ap (unsigned 8) upper ∙ signed_back 8 c.in_ok-high.high (omega arith) in
    let go = halves_go _ c.read_halves.ensures c.in_ok-high.was in
    let fine = sym (ap (λ (n : ℕ). decimal_fine (n * 2 ^ 64 + c.in_ok-high.lower)) bits) ∙ sym c.decimal_fine.ensures ∙ not-false _ c.if-not-decimal_fine.false-raw in
    ap (λ (z : ℤ). Ok ((Cell.Decimal z c.in_ok-high.lower), c.in_ok-high.next)) upper
    ∙ sym (ap (λ (x : Cell). Ok (x, c.in_ok-high.next)) (decimal_halves c.in_ok-high.high c.in_ok-high.lower low))
    ∙ sym (ap (shown_as decimal_cell) (ruled_go decimal_fine Decimal (number 16 0) _ _ go fine))
