-- What is found among the bytes of a body, counted from the first one on, is what the body's rule refuses, which counts from its length on.
use Prim.Native.Nat.{ℕ, suc, ◌+◌, ◌<◌}
use mathlib.Core.Path.{◌≡◌, refl, ◌∙◌}
use mathlib.Core.Bool.{Bool, true, false}
use mathlib.Core.List.{List, [], ◌∷◌}
use lib.ListN.{length}
use lib.Dec.{ltb}
use native.Mathlib.Omega.{arith}
use native.Mathlib.Nat.{add_assoc}
use Rattle.format.specs.declared.Fault.{Fault}
use Rattle.format.specs.declared.Fault.TheVariants.{Name, Text}
use Rattle.format.specs.Result.{pick}
use Rattle.format.specs.Format.{Verdict, fine, bad}
use Rattle.format.specs.Value.{ascii_from, ascii}
use Rattle.format.specs.Text.{utf8_from, utf8}
use Rattle.format.proofs.Texts.{moved, utf8_moved, utf8_bad}
use Rattle.std.specs.Prelude.{Some, None}
use Rattle.text.specs.Shown.{shown_at}

pub record Finds (rule from : List ℕ → Verdict) (f : Fault) : Type 0 where
  pub refuses : (bs : List ℕ) (i : ℕ) → shown_at (from bs) ≡ Some i → (rule bs ≡ bad f (4 + i)) × (i < length bs)
  pub passes : (bs : List ℕ) → shown_at (from bs) ≡ None → rule bs ≡ fine

finds : (rule from : List ℕ → Verdict) (f : Fault) → ((bs : List ℕ) → rule bs ≡ moved 4 (from bs)) → ((bs : List ℕ) (g : Fault) (p : ℕ) → from bs ≡ bad g p → (g ≡ f) × (p < length bs)) → Finds rule from f
finds rule from f moves inside = record {
  refuses = λ bs i e. refused bs i (from bs) refl e;
  passes = λ bs e. moves bs ∙ passed (from bs) e;
}
  where
    refused : (bs : List ℕ) (i : ℕ) (v : Verdict) → from bs ≡ v → shown_at v ≡ Some i → (rule bs ≡ bad f (4 + i)) × (i < length bs)
    refused bs i fine is e = absurd (let z : ◌≡◌ {A = ℕ} 0 1 = cc in omega arith)
    refused bs i (bad g p) is e =
        let same : p ≡ i = cc in
        let w = inside bs g p is in
        (moves bs ∙ rw (is, w.0, same), omega (arith, w.1))

    passed : (v : Verdict) → shown_at v ≡ None → moved 4 v ≡ fine
    passed fine e = refl
    passed (bad g p) e = absurd (let z : ◌≡◌ {A = ℕ} 0 1 = cc in omega arith)

ascii_moved : (j k : ℕ) (bs : List ℕ) → ascii_from (j + k) bs ≡ moved j (ascii_from k bs)
ascii_moved j k [] = refl
ascii_moved j k (b ∷ bs) = by_test (ltb b 128) (rw (add_assoc j k 1) (ascii_moved j (k + 1) bs))
  where
    by_test : (t : Bool) → ascii_from (j + k + 1) bs ≡ moved j (ascii_from (k + 1) bs) → pick t (ascii_from (j + k + 1) bs) (bad Name (j + k)) ≡ moved j (pick t (ascii_from (k + 1) bs) (bad Name k))
    by_test true rest = rest
    by_test false rest = refl

ascii_bad : (k : ℕ) (bs : List ℕ) (f : Fault) (p : ℕ) → ascii_from k bs ≡ bad f p → (f ≡ Name) × (p < k + length bs)
ascii_bad k [] f p e = absurd (let z : ◌≡◌ {A = ℕ} 0 1 = cc in omega arith)
ascii_bad k (b ∷ bs) f p e = by_test (ltb b 128) (ascii_bad (k + 1) bs f p) e
  where
    by_test : (t : Bool) → (ascii_from (k + 1) bs ≡ bad f p → (f ≡ Name) × (p < k + 1 + length bs)) → pick t (ascii_from (k + 1) bs) (bad Name k) ≡ bad f p → (f ≡ Name) × (p < k + suc (length bs))
    by_test true rest e = let h = rest e in (h.0, omega (arith, h.1))
    by_test false rest e = let same : k ≡ p = cc in (cc, omega arith)

pub finds_names : Finds ascii (ascii_from 0) Name
finds_names = finds ascii (ascii_from 0) Name (ascii_moved 4 0) (λ bs g p e. let w = ascii_bad 0 bs g p e in (w.0, omega (arith, w.1)))

pub finds_texts : Finds utf8 (utf8_from 0 0) Text
finds_texts = finds utf8 (utf8_from 0 0) Text (utf8_moved 4 0 0) (λ bs g p e. let w = utf8_bad 0 0 bs g p e in (w.0, omega (arith, w.1)))
