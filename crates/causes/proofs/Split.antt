-- Whatever is answered, its number is the one that it was, but where that was 7: by looking at each fault once. Which fault a call gives, and where, the numbers don't touch.
use Prim.Native.Nat.{ℕ, ◌<◌}
use mathlib.Core.Path.{◌≡◌, refl, sym, ap, ◌∙◌}
use mathlib.Core.Bool.{Bool, true, false, true≢false}
use mathlib.Core.Option.{some}
use mathlib.Core.Logic.{◌⊎◌, inl, inr, ⊎_elim}
use lib.Dec.{eqb}
use native.Mathlib.Omega.{arith}
use borrow.Author.Tests.{eqb-false}
use Rattle.format.specs.declared.Fault.{Fault}
use Rattle.format.specs.declared.Fault.TheVariants.{Short, Negative, Limit, Extra, Version, WireType, Decimal, Point, Flags, Name, Geography, Output, NoColumn, Stale, PastEnd, CardForm, Stage, Text}
use Rattle.format.specs.Result.{Res, ok, no, pick, number_of}
use Rattle.format.proofs.Decides.{number_small}
use Rattle.causes.specs.Before.{number_before, is_cause, Told, found, refused, told, Split, faults, fault_of}

-- of each fault: its number is what it was but for the five causes of 7, isn't 7, and tells the fault
abbrev Known : Fault → Type 0
Known f = (pick (is_cause (number_of f)) 7 (number_of f) ≡ number_before f) × (eqb (number_of f) 7 ≡ false) × (fault_of (number_of f) faults ≡ some f)

known : (f : Fault) → Known f
known Short = (refl, refl, refl)
known Negative = (refl, refl, refl)
known Limit = (refl, refl, refl)
known Extra = (refl, refl, refl)
known Version = (refl, refl, refl)
known WireType = (refl, refl, refl)
known Decimal = (refl, refl, refl)
known Point = (refl, refl, refl)
known Flags = (refl, refl, refl)
known Name = (refl, refl, refl)
known Geography = (refl, refl, refl)
known Output = (refl, refl, refl)
known NoColumn = (refl, refl, refl)
known Stale = (refl, refl, refl)
known PastEnd = (refl, refl, refl)
known CardForm = (refl, refl, refl)
known Stage = (refl, refl, refl)
known Text = (refl, refl, refl)

some_same : {A : Type 0} {a b : A} → some a ≡ some b → a ≡ b
some_same e = cc

-- a number tells one fault
pub numbers_apart : (f g : Fault) → number_of f ≡ number_of g → f ≡ g
numbers_apart f g e = some_same (sym (known f).2 ∙ ap (λ (n : ℕ). fault_of n faults) e ∙ (known g).2)

-- a number took the place of 7, or is what it was
apart : (n b : ℕ) (c : Bool) → pick c 7 n ≡ b → ((c ≡ true) × (b ≡ 7)) ⊎ ((c ≡ false) × (b ≡ n))
apart n b true e = inl (refl, sym e)
apart n b false e = inr (refl, sym e)

-- the numbers that were had 8 bits too
pub before_small : (f : Fault) → (0 < number_before f) × (number_before f < 256)
before_small f = let n = number_small f in ⊎_elim (λ k. (omega (arith, k.1), omega (arith, k.1))) (λ o. (omega (arith, o.1, n.0), omega (arith, o.1, n.1))) (apart (number_of f) (number_before f) (is_cause (number_of f)) (known f).0)

module _ {A : Type 0} where
  refused_same : {n m p q : ℕ} → ◌≡◌ {A = Told A} (refused n p) (refused m q) → (n ≡ m) × (p ≡ q)
  refused_same e = (cc, cc)

  found_refused : {a : A} {n p : ℕ} → found a ≡ refused n p → ⊥
  found_refused e = let z : ◌≡◌ {A = ℕ} 0 1 = cc in omega arith

  pub split_found : (a : A) → Split (found a) (found a)
  split_found a = record {
    seven = λ p e. absurd (found_refused e);
    cause = λ n p c e. absurd (found_refused e);
    other = λ h. refl;
    none = λ p e. absurd (found_refused e);
  }

  -- b is what the number n was
  split_refused : (n b p : ℕ) → pick (is_cause n) 7 n ≡ b → eqb n 7 ≡ false → Split {A = A} (refused b p) (refused n p)
  split_refused n b p was not7 =
      let kind = apart n b (is_cause n) was in
      record {
        seven = λ q e.
            let same = refused_same e in
            (n, ⊎_elim (λ c. c.0) (λ o. absurd (eqb-false n 7 not7 (sym o.1 ∙ same.0))) kind, ap (refused n) same.1);
        cause = λ m q c e.
            let same = refused_same e in
            ⊎_elim (λ k. ap (λ (z : ℕ). refused z p) k.1 ∙ ap (refused 7) same.1)
            (λ o. absurd (true≢false (sym c ∙ ap is_cause (sym same.0) ∙ o.0))) kind;
        other = λ h. ⊎_elim (λ k. absurd (h p (ap (λ (z : ℕ). refused z p) k.1))) (λ o. ap (λ (z : ℕ). refused z p) (sym o.1)) kind;
        none = λ q e. eqb-false n 7 not7 (refused_same e).0;
      }

  pub split_fault : (f : Fault) (p : ℕ) → Split {A = A} (refused (number_before f) p) (refused (number_of f) p)
  split_fault f p = split_refused (number_of f) (number_before f) p (known f).0 (known f).1

  pub split : (r : Res A) → Split (told number_before r) (told number_of r)
  split (ok a) = split_found a
  split (no f p) = split_fault f p
