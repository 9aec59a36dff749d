-- The rule of a decimal, by where its upper half lies; the lower half decides at the two ends and at the null value.
-- 10 ^ 38 is top * 2 ^ 64 + 687399551400673280 and 2 ^ 128 - 10 ^ 38 is bottom * 2 ^ 64 + 17759344522308878336.
use Prim.Native.Nat.{ℕ, suc, ◌+◌, ◌*◌, ◌-◌, ◌^◌, ◌≤◌, ◌<◌}
use mathlib.Core.Path.{◌≡◌, refl, sym, ◌∙◌}
use mathlib.Core.Bool.{Bool, true, false, ◌||◌, true≢false}
use lib.Dec.{ltb, eqb}
use lib.IntN.{ℤ, pos, negsuc}
use lib.Signed.{lt_z}
use mir.Syntax.{w64}
use mir.Val.{SFits, of_z}
use native.Mathlib.Omega.{arith}
use native.Mathlib.Nat.{le_of_lt}
use borrow.Author.Tests.{lt-ltb, le-ltb, ltb-true, ltb-false}
use Rattle.format.specs.Value.{decimal_fine}
use Rattle.format.proofs.Results.{ltb_add}
use Rattle.scan.proofs.Sixteen.{upper_less, null_upper, null_lower}
use Rattle.scan.specs.Signed.{unsigned}

abbrev P : ℕ
P = 2 ^ 64

abbrev top : ℕ
top = 5421010862427522170

abbrev bottom : ℕ
bottom = 13025733211282029445

abbrev null : ℕ
null = 9223372036854775808

or_none : (t : Bool) → (t || false) ≡ t
or_none true = refl
or_none false = refl

module _ (b l : ℕ) (k : l < P) where
  less : (c d : ℕ) → b < c → ltb (b * P + l) (c * P + d) ≡ true
  less c d h = lt-ltb _ _ (upper_less P b l c d h k)

  more : (c d : ℕ) → d < P → c < b → ltb (b * P + l) (c * P + d) ≡ false
  more c d s h = le-ltb _ _ (le_of_lt (upper_less P c d b l h s))

  above : (c d : ℕ) → d < P → c < b → ltb (c * P + d) (b * P + l) ≡ true
  above c d s h = lt-ltb _ _ (upper_less P c d b l h s)

  under : (c d : ℕ) → b < c → ltb (c * P + d) (b * P + l) ≡ false
  under c d h = le-ltb _ _ (le_of_lt (upper_less P b l c d h k))

  pub small : b < top → decimal_fine (b * P + l) ≡ true
  small h = rw (less top 687399551400673280 h)

  pub large : bottom < b → decimal_fine (b * P + l) ≡ true
  large h = rw (more top 687399551400673280 (omega arith) (omega arith), above bottom 17759344522308878336 (omega arith) h)

  between : top < b → b < bottom → (b ≡ null → ⊥) → decimal_fine (b * P + l) ≡ false
  between h g n = rw (more top 687399551400673280 (omega arith) h, under bottom 17759344522308878336 g, null_upper b l k n)

  pub at_null : b ≡ null → decimal_fine (b * P + l) ≡ eqb l 0
  at_null e = rw (more top 687399551400673280 (omega arith) (omega arith), under bottom 17759344522308878336 (omega arith), e) (sym (null_lower l))

  at_top : b ≡ top → decimal_fine (b * P + l) ≡ ltb l 687399551400673280
  at_top e =
      let other : b ≡ null → ⊥ = λ h. omega arith in
      simp (under bottom 17759344522308878336 (omega arith), null_upper b l k other, or_none) (rw e (ltb_add (top * P) l 687399551400673280))

  at_bottom : b ≡ bottom → decimal_fine (b * P + l) ≡ ltb 17759344522308878336 l
  at_bottom e =
      let other : b ≡ null → ⊥ = λ h. omega arith in
      simp (more top 687399551400673280 (omega arith) (omega arith), null_upper b l k other, or_none) (rw e (ltb_add (bottom * P) 17759344522308878336 l))

-- ---- the same by the signed upper half: what each test of the code says
same_bits : (z : ℤ) → of_z w64 z ≡ unsigned 8 z
same_bits (pos u) = refl
same_bits (negsuc u) = refl

abbrev Fine : ℤ → ℕ → Bool
Fine z l = decimal_fine (unsigned 8 z * P + l)

pub null_end : (z : ℤ) (l : ℕ) → l < P → of_z w64 z ≡ null → eqb l 0 ≡ Fine z l
null_end z l k e = sym (at_null (unsigned 8 z) l k (sym (same_bits z) ∙ e))

pub top_end : (z : ℤ) (l : ℕ) → l < P → of_z w64 z ≡ top → ltb l 687399551400673280 ≡ Fine z l
top_end z l k e = sym (at_top (unsigned 8 z) l k (sym (same_bits z) ∙ e))

pub bottom_end : (z : ℤ) (l : ℕ) → l < P → of_z w64 z ≡ bottom → ltb 17759344522308878336 l ≡ Fine z l
bottom_end z l k e = sym (at_bottom (unsigned 8 z) l k (sym (same_bits z) ∙ e))

-- at none of the three the upper half alone decides
abbrev pub Inner : ℤ → Type 0
Inner z = (of_z w64 z ≡ null → ⊥) × (of_z w64 z ≡ top → ⊥) × (of_z w64 z ≡ bottom → ⊥)

pub high_enough : (z : ℤ) (l : ℕ) → SFits w64 z → l < P → Inner z → lt_z (negsuc top) z ≡ true → lt_z z (pos top) ≡ Fine z l
high_enough (pos u) l fit k n t = by_test (ltb u top) refl
  where
    by_test : (b : Bool) → ltb u top ≡ b → ltb u top ≡ decimal_fine (u * P + l)
    by_test true e = e ∙ sym (small u l k (ltb-true u top e))
    by_test false e =
        let size : u < 2 ^ 63 = fit.sfits in
        let other : u ≡ top → ⊥ = n.1 in
        let far : top ≤ u = ltb-false u top e in
        e ∙ sym (between u l k (omega arith) (omega arith) n.0)
high_enough (negsuc u) l fit k n t =
    let near : u < top = ltb-true u top t in
    sym (large (256 ^ 8 - suc u) l k (omega arith))

pub too_low : (z : ℤ) (l : ℕ) → SFits w64 z → l < P → Inner z → lt_z (negsuc top) z ≡ false → false ≡ Fine z l
too_low (pos u) l fit k n t = absurd (true≢false t)
too_low (negsuc u) l fit k n t =
    let size : u < 2 ^ 63 = fit.sfits in
    let far : top ≤ u = ltb-false u top t in
    let other : 2 ^ 64 - suc u ≡ bottom → ⊥ = n.2 in
    sym (between (256 ^ 8 - suc u) l k (omega arith) (omega arith) n.0)
