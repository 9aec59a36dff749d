-- The digits of one number are the sizes of the types, which antt computes one by one.
use Rattle.std.proofs.Common.{◌≡◌, ℕ, zero, suc, ◌*◌, ◌/◌, ◌%◌, ◌^◌, ◌<◌, ◌≤◌, Bool, true, false, ◌&&◌, eqb, refl, ap, ◌∙◌, arith, ne_eqb, eqb-true}
use borrow.Author.Tests.{eqb-false}
use Rattle.format.specs.Value.{width_of}
use Rattle.format.proofs.Results.{and_true_both}

-- a test passes at every number below n
abbrev every : (ℕ → Bool) → ℕ → Bool
every f zero = true
every f (suc n) = f n && every f n

below : (f : ℕ → Bool) (n : ℕ) → every f n ≡ true → (k : ℕ) → k < n → f k ≡ true
below f zero all k h = absurd (omega arith)
below f (suc n) all k h =
    let w = and_true_both (f n) (every f n) all in
    by_case (eqb k n) refl w.0 (λ less. below f n w.1 k less)
  where
    by_case : (b : Bool) → eqb k n ≡ b → f n ≡ true → (k < n → f k ≡ true) → f k ≡ true
    by_case true is last others = ap f (eqb-true k n is) ∙ last
    by_case false is last others = let other = eqb-false k n is in others (omega arith)

pub digit_width : (t : ℕ) → t < 16 → 0x800808421000 / 2 ^ (t * 4) % 16 ≡ width_of t
digit_width t h = eqb-true _ (width_of t) (below (λ k. eqb (0x800808421000 / 2 ^ (k * 4) % 16) (width_of k)) 16 refl t h)

pub no_width : (t : ℕ) → 16 ≤ t → (t ≡ 22 → ⊥) → (t ≡ 26 → ⊥) → 0 ≡ width_of t
no_width t h a b =
    rw (ne_eqb t 3 (λ e. omega arith), ne_eqb t 4 (λ e. omega arith), ne_eqb t 5 (λ e. omega arith), ne_eqb t 6 (λ e. omega arith), ne_eqb t 8 (λ e. omega arith), ne_eqb t 11 (λ e. omega arith), ne_eqb t 22 a, ne_eqb t 26 b)
