-- `write::decimal_fine` meets its contract: the upper half's sign is only a way to read its bits.
use mathlib.Core.Path.{ap, ◌∙◌}
use Prim.Native.Nat.{ℕ, ◌+◌, ◌*◌, ◌^◌}
use mir.Syntax.{w64}
use mir.ValLaws.{to_z-of_z}
use native.Mathlib.Omega.{arith}
use Rattle.format.specs.Value.{decimal_fine}
use Rattle.scan.specs.Signed.{unsigned}
use Rattle.scan.proofs.Twos.{signed_back}
use Rattle.write.proofs.decimal_fine.Goals as goal

pub returns : goal.returns
returns c =
    let a = c.args in
    let upper = to_z-of_z w64 _ (record { sfits = c.signed64.type_inv }) ∙ c.signed64.ensures in
    let bits = ap (unsigned 8) upper ∙ signed_back 8 a.upper (omega arith) in
    c.decimal_fine.ensures ∙ ap (λ (n : ℕ). decimal_fine (n * 2 ^ 64 + a.lower)) bits
