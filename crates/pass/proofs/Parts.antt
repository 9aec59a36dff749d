-- How a value is passed, by how its format is made: each law here passes a format by passing its parts.
use Prim.Native.Nat.{ℕ, ◌+◌, ◌≤◌}
use mathlib.Core.Path.{◌≡◌, refl, sym, ◌∙◌, ap}
use mathlib.Core.Bool.{Bool, true, false, ◌&&◌}
use mathlib.Core.List.{List}
use mathlib.Core.Option.{Option, some, none, get_or}
use lib.ListN.{length, take, drop}
use lib.Dec.{leb, ltb, eqb}
use native.Mathlib.Omega.{arith}
use borrow.Author.Tests.{leb-false, ltb-false, eqb-true, le-leb}
use Rattle.format.specs.declared.Fault.{Fault}
use Rattle.format.specs.declared.Fault.TheVariants.{Short, Negative, Limit}
use Rattle.format.specs.Result.{Res, ok, no, pick}
use Rattle.format.specs.Number.{num_at, half, null4}
use Rattle.format.specs.Format.{Format, number, block, nothing, ruled, into, both, present, counted, Verdict, fine, bad, judged}
use Rattle.format.proofs.Results.{ok_same, no_ok, passed, spared, bound, and_true_both}
use Rattle.scan.proofs.Answers.{took}
use Rattle.pass.specs.Passes.{Passes}

module _ {A : Type 0} where
  -- what a reading gives, where it gives something, is t
  abbrev pub Gives : Format A → List ℕ → ℕ → A → Type 0
  Gives f s at t = (v : A) (next : ℕ) → f.read s at ≡ ok (v, next) → t ≡ v

  end_same : {v w : A × ℕ} → ok v ≡ ok w → v.1 ≡ w.1
  end_same e = ap (λ (p : A × ℕ). p.1) (ok_same e)

-- what a rule lets pass, and the number of a field, play no part
pub gives_ruled : {A : Type 0} (test : A → Bool) (fault : Fault) (f : Format A) (s : List ℕ) (at : ℕ) {t : A} → Gives f s at t → Gives (ruled test fault f) s at t
unfolding ruled
gives_ruled test fault f s at g v next e =
    let r = bound (f.read s at) e in
    g v next (r.1 ∙ (passed (test r.0.0) _ _ r.2).1)

pub gives_number : (k field : ℕ) (s : List ℕ) (at : ℕ) {t : ℕ} → Gives (number k 0) s at t → Gives (number k field) s at t
unfolding number
gives_number k field s at g v next e = g v next e

module _ (s : List ℕ) {at r : ℕ} where
  pub passes_number : (k field : ℕ) → (at + k ≤ length s → r ≡ at + k) → Passes (number k field) s at r
  passes_number k field far = record { ends = λ v next e. let h = took k field s at v next e in far h.fit ∙ sym h.place }

  pub passes_block : (n field : ℕ) → Passes (number n field) s at r → Passes (block n field) s at r
  unfolding number block
  passes_block n field p = record {
    ends = λ v next e.
        let h = passed (leb (at + n) (length s)) _ _ e in
        p.ends (num_at n s at) (at + n) (rw h.0) ∙ end_same h.1;
  }

  pub passes_ruled : {A : Type 0} (test : A → Bool) (fault : Fault) {f : Format A} → Passes f s at r → Passes (ruled test fault f) s at r
  unfolding ruled
  passes_ruled test fault {f} p = record {
    ends = λ v next e.
        let w = bound (f.read s at) e in
        p.ends w.0.0 w.0.1 w.1 ∙ end_same (passed (test w.0.0) _ _ w.2).1;
  }

  pub passes_into : {A B : Type 0} (to : A → B) (from : B → A) {f : Format A} → Passes f s at r → Passes (into to from f) s at r
  unfolding into
  passes_into to from {f} p = record {
    ends = λ v next e.
        let w = bound (f.read s at) e in
        p.ends w.0.0 w.0.1 w.1 ∙ end_same w.2;
  }

pub passes_nothing : {A : Type 0} (a : A) (s : List ℕ) (at : ℕ) → Passes (nothing a) s at at
unfolding nothing
passes_nothing a s at = record { ends = λ v next e. end_same e }

-- one value, known as t, and then another that it decides; and another that doesn't look at it
module _ {A B : Type 0} {f : Format A} (s : List ℕ) {at mid r : ℕ} where
  pub passes_by : (g : A → Format B) {t : A} → Gives f s at t → Passes f s at mid → Passes (g t) s mid r → Passes (both f g) s at r
  unfolding both
  passes_by g {t} told p u = record {
    ends = λ v next e.
        let w = bound (f.read s at) e in
        let known : t ≡ w.0.0 = told w.0.0 w.0.1 w.1 in
        let there : mid ≡ w.0.1 = p.ends w.0.0 w.0.1 w.1 in
        let q = bound ((g w.0.0).read s w.0.1) w.2 in
        u.ends q.0.0 q.0.1 (rw (known, there) q.1) ∙ end_same q.2;
  }

  pub passes_then : {g : Format B} → Passes f s at mid → Passes g s mid r → Passes (both f (λ a. g)) s at r
  unfolding both
  passes_then {g} p u = record {
    ends = λ v next e.
        let w = bound (f.read s at) e in
        let there : mid ≡ w.0.1 = p.ends w.0.0 w.0.1 w.1 in
        let q = bound (g.read s w.0.1) w.2 in
        u.ends q.0.0 q.0.1 (rw there q.1) ∙ end_same q.2;
  }

-- a value that is there, and one that is not
module _ {A : Type 0} (d : A) (f : Format A) (s : List ℕ) (at : ℕ) (t : Bool) where
  pub passes_present : t ≡ true → {r : ℕ} → Passes f s at r → Passes (present t d f) s at r
  unfolding present
  passes_present is p = rw is (passes_into s some (λ o. get_or o d) p)

  pub passes_absent : t ≡ false → Passes (present t d f) s at at
  unfolding present
  passes_absent is = rw is (passes_nothing none s at)

-- by a test that came out the same
pub passes_if : {A : Type 0} (d : A) (f : Format A) (s : List ℕ) {at r : ℕ} {t u : Bool} → t ≡ u → Passes (present t d f) s at r → Passes (present u d f) s at r
passes_if d f s e p = rw e at p

-- a counted body that was read, whatever its rule: with null's length it is null, and ends there; with another it has that many bytes
module _ (most : ℕ) (rule : List ℕ → Verdict) (s : List ℕ) (at n : ℕ) (v : Option (List ℕ)) (next : ℕ) where
  abbrev tests : Bool → Res (Option (List ℕ) × ℕ)
  tests t =
      pick t (ok (none, at + 4))
      (pick (leb (half 4) n) (no Negative at)
      (pick (ltb most n) (no Limit at)
      (pick (ltb (length s) (at + 4 + n)) (no Short at)
      (judged (rule (take n (drop (at + 4) s))) (take n (drop (at + 4) s), at + 4 + n) at))))

  null_ends : (t : Bool) → n ≡ null4 → tests t ≡ ok (v, next) → at + 4 ≡ next
  null_ends true z e = end_same e
  null_ends false z e = let h = spared (leb (half 4) n) _ _ e in absurd (omega (arith, leb-false (half 4) n h.0))

  judged_ends : (j : Verdict) (p : List ℕ × ℕ) → judged j p at ≡ ok (v, next) → p.1 ≡ next
  judged_ends fine p e = end_same e
  judged_ends (bad f m) p e = absurd (no_ok e)

  some_ends : (nullable t : Bool) → nullable && eqb n null4 ≡ t → (n ≡ null4 → ⊥) → tests t ≡ ok (v, next) → (at + 4 + n ≤ length s) × (at + 4 + n ≡ next)
  some_ends nullable true i z e = absurd (z (eqb-true n null4 (and_true_both nullable (eqb n null4) i).1))
  some_ends nullable false i z e =
      let t₁ = spared (leb (half 4) n) _ _ e in
      let t₂ = spared (ltb most n) _ _ t₁.1 in
      let t₃ = spared (ltb (length s) (at + 4 + n)) _ _ t₂.1 in
      (ltb-false (length s) (at + 4 + n) t₃.0, judged_ends (rule (take n (drop (at + 4) s))) _ t₃.1)

-- n is what stands for its length
module _ (s : List ℕ) {at mid n : ℕ} (nullable : Bool) (most : ℕ) (rule : List ℕ → Verdict) (l b : ℕ) (told : Gives (number 4 0) s at n) (p : Passes (number 4 0) s at mid) where
  pub passes_null : n ≡ null4 → Passes (counted nullable most rule l b) s at mid
  unfolding counted number
  passes_null z = record {
    ends = λ v next e.
        let w = bound ((number 4 l).read s at) e in
        let same : n ≡ w.0.0 = told w.0.0 w.0.1 w.1 in
        let place = (took 4 l s at w.0.0 w.0.1 w.1).place in
        p.ends w.0.0 w.0.1 w.1 ∙ place ∙ null_ends most rule s at w.0.0 v next (nullable && eqb w.0.0 null4) (sym same ∙ z) w.2;
  }

  pub passes_some : {r : ℕ} → (n ≡ null4 → ⊥) → Passes (number n 0) s mid r → Passes (counted nullable most rule l b) s at r
  unfolding counted number
  passes_some {r} z u = record {
    ends = λ v next e.
        let w = bound ((number 4 l).read s at) e in
        let same : n ≡ w.0.0 = told w.0.0 w.0.1 w.1 in
        let place : mid ≡ at + 4 = p.ends w.0.0 w.0.1 w.1 ∙ (took 4 l s at w.0.0 w.0.1 w.1).place in
        let far = some_ends most rule s at w.0.0 v next nullable (nullable && eqb w.0.0 null4) refl (λ i. z (same ∙ i)) w.2 in
        let fit : mid + n ≤ length s = omega (arith, far.0) in
        let y = u.ends (num_at n s mid) (mid + n) (rw (le-leb _ _ fit)) in
        omega (arith, y, far.1);
  }
