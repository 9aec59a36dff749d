-- What `decimal` promises of its count is what `places_from` computes; a number below 2^64 has at most 20 digits.
use Prim.Native.Nat.{ℕ, zero, suc, ◌+◌, ◌-◌, ◌^◌, ◌≤◌, ◌<◌}
use mathlib.Core.Path.{◌≡◌, refl, sym, ap, subst, ◌∙◌}
use mathlib.Core.List.{List, [], ◌∷◌, ◌++◌, append_assoc}
use mathlib.Core.Logic.{⊎_elim}
use mathlib.Core.Bool.{Bool, true, false, cond}
use native.Mathlib.Nat.{pow-le-pow_right, le_trans, eq-or-lt_of_le, not-le_of_lt}
use native.Mathlib.Numerals.{add-one}
use native.Mathlib.Omega.{arith}
use lib.Dec.{ltb}
use lib.ListN.{length, take, set}
use lib.Seq.{paste, length-paste, take-paste, take-length, take-suc-set}
use borrow.Author.Tests.{ltb-true, ltb-false}
use Rattle.listing.specs.Digits.{IsDigitCount, last_digits}
use Rattle.listing.specs.Text.{places_from, spelled}

-- a number that takes m digits is no less than the power of any fewer
power : (n m k : ℕ) → IsDigitCount 10 1 n m → 1 ≤ k → k < m → 10 ^ k ≤ n
power n m k few one more = le_trans {m = 10 ^ (m - 1)} (pow-le-pow_right (omega arith) (omega arith)) (few.2 (omega arith))

-- and so a number below a power takes no more digits
pub no_more : (n m k : ℕ) → IsDigitCount 10 1 n m → 1 ≤ k → n < 10 ^ k → m ≤ k
no_more n m k few one small = by (ltb k m) refl
  where
    by : (b : Bool) → ltb k m ≡ b → m ≤ k
    by true e = let far = power n m k few one (ltb-true k m e) in omega arith
    by false e = ltb-false k m e

pub at_most_20 : (n m : ℕ) → n < 2 ^ 64 → IsDigitCount 10 1 n m → m ≤ 20
at_most_20 n m small few = no_more n m 20 few (omega arith) (omega arith)

pub places : (more k n m : ℕ) → 1 ≤ k → k ≤ m → m ≤ k + more → IsDigitCount 10 1 n m → places_from more k n ≡ m
unfolding places_from
places zero k n m one low high few = omega arith
places (suc more) k n m one low high few = by (ltb n (10 ^ k)) refl (λ more-digits. places more (suc k) n m (omega arith) more-digits (omega arith) few)
  where
    by : (b : Bool) → ltb n (10 ^ k) ≡ b → (suc k ≤ m → places_from more (suc k) n ≡ m) → cond b k (places_from more (suc k) n) ≡ m
    by true e next = let fewer = no_more n m k few one (ltb-true n (10 ^ k) e) in omega arith
    by false e next = ⊎_elim (λ same. absurd (not-le_of_lt few.1 (subst (λ (j : ℕ). 10 ^ j ≤ n) same (ltb-false n (10 ^ k) e)))) (λ less. next less) (eq-or-lt_of_le low)

-- what `put_number` leaves: d with the digits src pasted in at `at`, and then one byte more
pub puts : (d p src : List ℕ) (at k n after : ℕ) → p ≡ paste d at src (length src) → length src ≡ k → at + k < length d
    → src ≡ last_digits 10 k n → places_from 19 1 n ≡ k → take (at + k + 1) (set p (at + k) after) ≡ take at d ++ spelled n after
unfolding spelled
puts d p src at k n after e size room text count =
    let inside : at + k < length p = subst (λ (l : ℕ). at + k < l) (sym (ap length e ∙ length-paste d at src (length src) (omega arith) (omega arith))) room in
    let front : take (at + k) p ≡ take at d ++ src =
    subst (λ (j : ℕ). take (at + j) p ≡ take at d ++ src) size
    (ap (take (at + length src)) e ∙ take-paste d at src (length src) (omega arith) (omega arith) ∙ ap (λ (l : List ℕ). take at d ++ l) (take-length src)) in
    ap (λ (j : ℕ). take j (set p (at + k) after)) (add-one (at + k))
    ∙ take-suc-set p (at + k) after inside
    ∙ ap (λ (l : List ℕ). l ++ (after ∷ [])) front
    ∙ append_assoc (take at d) src (after ∷ [])
    ∙ ap (λ (l : List ℕ). take at d ++ (l ++ (after ∷ []))) (text ∙ ap (λ (j : ℕ). last_digits 10 j n) (sym count))
