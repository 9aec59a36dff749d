-- A signed number without its sign, as the code finds it: the low bytes of 8 are those of fewer.
use Prim.Native.Nat.{ℕ, zero, suc, ◌+◌, ◌*◌, ◌-◌, ◌%◌, ◌^◌, ◌<◌}
use native.Mathlib.Nat.{mod-eq_of_lt, mul-add-mod_self_right, suc-mul}
use native.Mathlib.Omega.{arith}
use mathlib.Core.Path.{◌≡◌, sym, ap, ◌∙◌, subst}
use lib.IntN.{ℤ, pos, negsuc}
use lib.Signed.{mag}
use mir.Syntax.{Width, w64}
use mir.Val.{SFits, of_z, to_z}
use mir.ValLaws.{to_z-of_z}
use Rattle.scan.specs.Signed.{unsigned}

wrapped : (p q n : ℕ) → 0 < q → n < p → (q * p - suc n) % p ≡ p - suc n
wrapped p zero n h l = absurd (omega arith)
wrapped p (suc q) n h l =
    let e : suc q * p - suc n ≡ q * p + (p - suc n) = omega (arith, suc-mul q p) in
    ap (λ (m : ℕ). m % p) e ∙ mul-add-mod_self_right q p (p - suc n) ∙ mod-eq_of_lt (omega arith)

low : (k q : ℕ) → 0 < q → 256 ^ 8 ≡ q * 256 ^ k → (z : ℤ) → mag z < 256 ^ k → unsigned 8 z % 256 ^ k ≡ unsigned k z
low k q h e (pos n) l = mod-eq_of_lt l
low k q h e (negsuc n) l = ap (λ (m : ℕ). (m - suc n) % 256 ^ k) e ∙ wrapped (256 ^ k) q n h l

-- a number of a narrower width w, cast: it fits, and the low k bytes of its 8 are its own
module _ (w : Width) (z : ℤ) (fits : SFits w z) (small : mag z < 2 ^ 63) where
  pub wider : SFits w64 (to_z w (of_z w z))
  wider = subst (SFits w64) (sym (to_z-of_z w z fits)) (record { sfits = small })

  pub low_bytes : (k q : ℕ) → 0 < q → 256 ^ 8 ≡ q * 256 ^ k → mag z < 256 ^ k → {n : ℕ} → n ≡ unsigned 8 (to_z w64 (of_z w64 (to_z w (of_z w z)))) → n % 256 ^ k ≡ unsigned k z
  low_bytes k q h e l f =
      ap (λ (m : ℕ). m % 256 ^ k) (f ∙ ap (unsigned 8) (to_z-of_z w64 (to_z w (of_z w z)) wider ∙ to_z-of_z w z fits)) ∙ low k q h e z l
