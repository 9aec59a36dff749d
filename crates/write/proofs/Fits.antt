-- Whether a number fits a type, by the number's halves: for each width that there is.
use Prim.Native.Nat.{ℕ, suc, ◌+◌, ◌*◌, ◌^◌, ◌<◌, ◌≤◌}
use mathlib.Core.Path.{◌≡◌, refl, sym, ap, ◌∙◌}
use mathlib.Core.Bool.{Bool, true, false, ◌&&◌, not}
use lib.Arith.{digits_lt}
use lib.Dec.{leb, ltb, eqb, leb-suc-suc}
use native.Mathlib.Nat.{zero-add}
use native.Mathlib.Omega.{arith}
use borrow.Author.Tests.{lt-ltb, le-ltb, eqb-true, eqb-false}
use Rattle.format.specs.Result.{pick}
use Rattle.format.specs.Value.{width_of}
use Rattle.steps.specs.Arguments.{is_number_of}
use Rattle.put.proofs.Laws.{widths}

module _ (upper lower : ℕ) where
  abbrev whole : ℕ
  whole = upper * 2 ^ 64 + lower

  -- what is asked of the halves, by a width
  abbrev pub asked : ℕ → Bool
  asked w =
      pick (eqb w 1) (eqb upper 0 && leb lower 0xff)
      (pick (eqb w 2) (eqb upper 0 && leb lower 0xffff)
      (pick (eqb w 4) (eqb upper 0 && leb lower 0xffffffff)
      (pick (eqb w 8) (eqb upper 0) (eqb w 16))))

  -- a number whose upper half is 0 is its lower half, and any other has more than 8 bytes
  by_upper : (b c : Bool) → (whole ≡ lower → b ≡ c) → (2 ^ 64 ≤ whole → false ≡ c) → eqb upper 0 && b ≡ c
  by_upper b c f g = go (eqb upper 0) refl
    where
      go : (none : Bool) → eqb upper 0 ≡ none → none && b ≡ c
      go true e = f (ap (λ (u : ℕ). u * 2 ^ 64 + lower) (eqb-true upper 0 e) ∙ zero-add lower)
      go false e = let some : upper ≡ 0 → ⊥ = eqb-false upper 0 e in g (omega arith)

  asked_is : upper < 2 ^ 64 → lower < 2 ^ 64 → (t : ℕ) → asked (width_of t) ≡ is_number_of t whole
  asked_is high low =
      let short : (m : ℕ) → m < 2 ^ 64 → eqb upper 0 && leb lower m ≡ ltb whole (suc m)
      = λ m h. by_upper (leb lower m) (ltb whole (suc m)) (λ e. sym (ap (λ (n : ℕ). ltb n (suc m)) e ∙ leb-suc-suc lower m)) (λ e. sym (le-ltb whole (suc m) (omega arith))) in
      let long : eqb upper 0 && true ≡ ltb whole (256 ^ 8)
      = by_upper true (ltb whole (256 ^ 8)) (λ e. sym (ap (λ (n : ℕ). ltb n (256 ^ 8)) e ∙ lt-ltb lower (256 ^ 8) low)) (λ e. sym (le-ltb whole (256 ^ 8) e)) in
      widths (λ w. asked w ≡ not (eqb w 0) && ltb whole (256 ^ w)) refl (short 0xff (omega arith)) (short 0xffff (omega arith)) (short 0xffffffff (omega arith))
      (sym (and_true (eqb upper 0)) ∙ long) (sym (lt-ltb whole (256 ^ 16) (digits_lt high low)))
    where
      and_true : (b : Bool) → b && true ≡ b
      and_true true = refl
      and_true false = refl

  pub asked_of : upper < 2 ^ 64 → lower < 2 ^ 64 → (t w : ℕ) → width_of t ≡ w → asked w ≡ is_number_of t whole
  asked_of high low t w e = ap asked (sym e) ∙ asked_is high low t
