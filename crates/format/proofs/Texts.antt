-- Text, read sequence by sequence; and what is read by a rule is read without it.
use Prim.Native.Nat.{ℕ, zero, suc, ◌+◌, ◌≤◌, ◌<◌}
use mathlib.Core.Path.{◌≡◌, refl}
use mathlib.Core.Bool.{Bool, true, false, ◌&&◌}
use mathlib.Core.List.{List, [], ◌∷◌}
use mathlib.Core.Option.{Option, none}
use lib.ListN.{length, take, drop, get_or}
use lib.Dec.{leb, ltb, eqb}
use native.Mathlib.Omega.{arith}
use native.Mathlib.Nat.{add-zero, add_assoc}
use borrow.Author.Tests.{le-leb}
use Rattle.format.specs.declared.Fault.{Fault}
use Rattle.format.specs.declared.Fault.TheVariants.{Short, Negative, Limit, Text}
use Rattle.format.specs.Result.{ok, no, pick}
use Rattle.format.specs.Number.{half, null4}
use Rattle.format.specs.Format.{number, counted, Verdict, fine, bad, judged}
use Rattle.format.specs.Value.{anything}
use Rattle.format.specs.Text.{sequence, begins, utf8_from}
use Rattle.format.proofs.Results.{no_ok, spared, bound}

-- past n bytes of a sequence, or as many as there are
pub utf8_inside : (k n : ℕ) (bs : List ℕ) → utf8_from k n bs ≡ utf8_from (k + n) 0 (drop n bs)
unfolding utf8_from
utf8_inside k zero bs = rw (add-zero k)
utf8_inside k (suc n) [] = refl
utf8_inside k (suc n) (a ∷ bs) = let next : k + suc n ≡ k + 1 + n = omega arith in rw next (utf8_inside (k + 1) n bs)

-- past a byte of ASCII; past a sequence; and where none begins
pub utf8_low : (k a : ℕ) (bs : List ℕ) → a ≤ 127 → utf8_from k 0 (a ∷ bs) ≡ utf8_from (k + 1) 0 bs
unfolding utf8_from sequence
utf8_low k a bs h = simp (le-leb a 127 h)

module _ (k a : ℕ) (bs : List ℕ) where
  pub utf8_next : (n : ℕ) → sequence a (get_or bs 0 0) (get_or bs 1 0) (get_or bs 2 0) ≡ suc n → utf8_from k 0 (a ∷ bs) ≡ utf8_from (k + suc n) 0 (drop (suc n) (a ∷ bs))
  unfolding utf8_from
  utf8_next n e = let next : k + suc n ≡ k + 1 + n = omega arith in rw (e, next) (utf8_inside (k + 1) n bs)

  pub utf8_stop : sequence a (get_or bs 0 0) (get_or bs 1 0) (get_or bs 2 0) ≡ 0 → utf8_from k 0 (a ∷ bs) ≡ bad Text k
  unfolding utf8_from
  utf8_stop e = rw e

-- what is refused is a sequence that begins inside
pub utf8_bad : (k n : ℕ) (bs : List ℕ) (f : Fault) (p : ℕ) → utf8_from k n bs ≡ bad f p → (f ≡ Text) × (p < k + length bs)
unfolding utf8_from
utf8_bad k n [] f p e = absurd (let z : ◌≡◌ {A = ℕ} 0 1 = cc in omega arith)
utf8_bad k (suc n) (a ∷ bs) f p e = let h = utf8_bad (k + 1) n bs f p e in (h.0, omega (arith, h.1))
utf8_bad k zero (a ∷ bs) f p e = by_size (sequence a (get_or bs 0 0) (get_or bs 1 0) (get_or bs 2 0)) (λ n. utf8_bad (k + 1) n bs f p) e
  where
    by_size : (n : ℕ) → ((j : ℕ) → utf8_from (k + 1) j bs ≡ bad f p → (f ≡ Text) × (p < k + 1 + length bs)) → begins n k (λ j. utf8_from (k + 1) j bs) ≡ bad f p → (f ≡ Text) × (p < k + suc (length bs))
    by_size zero rest e = let same : k ≡ p = cc in (cc, omega arith)
    by_size (suc j) rest e = let h = rest j e in (h.0, omega (arith, h.1))

-- what is said of a text, moved by j
abbrev pub moved : ℕ → Verdict → Verdict
moved j fine = fine
moved j (bad f p) = bad f (j + p)

pub utf8_moved : (j k n : ℕ) (bs : List ℕ) → utf8_from (j + k) n bs ≡ moved j (utf8_from k n bs)
unfolding utf8_from
utf8_moved j k n [] = refl
utf8_moved j k (suc n) (a ∷ bs) = rw (add_assoc j k 1) (utf8_moved j (k + 1) n bs)
utf8_moved j k zero (a ∷ bs) = by_size (sequence a (get_or bs 0 0) (get_or bs 1 0) (get_or bs 2 0)) (λ n. utf8_moved j (k + 1) n bs)
  where
    by_size : (n : ℕ) → ((i : ℕ) → utf8_from (j + (k + 1)) i bs ≡ moved j (utf8_from (k + 1) i bs)) → begins n (j + k) (λ i. utf8_from (j + k + 1) i bs) ≡ moved j (begins n k (λ i. utf8_from (k + 1) i bs))
    by_size zero rest = refl
    by_size (suc i) rest = rw (add_assoc j k 1) (rest i)

-- a body that a rule lets pass is the same body without the rule
module _ (nullable : Bool) (most : ℕ) (rule : List ℕ → Verdict) (l b c d : ℕ) where
  unruled : (v : Verdict) (p : List ℕ × ℕ) (at : ℕ) {w : Option (List ℕ) × ℕ} → judged v p at ≡ ok w → judged fine p at ≡ ok w
  unruled fine p at e = e
  unruled (bad f n) p at e = absurd (no_ok e)

  pub counted_unruled : (s : List ℕ) (at : ℕ) (w : Option (List ℕ) × ℕ) → (counted nullable most rule l b).read s at ≡ ok w → (counted nullable most anything c d).read s at ≡ ok w
  unfolding counted number
  counted_unruled s at w e =
      let r = bound ((number 4 l).read s at) e in
      let n = r.0.0 in
      rw r.1 (by_null n (nullable && eqb n null4) r.2)
    where
      by_null : (n : ℕ) (t : Bool) → let bs = take n (drop (at + 4) s) in
          pick t (ok (none, at + 4)) (pick (leb (half 4) n) (no Negative at) (pick (ltb most n) (no Limit at) (pick (ltb (length s) (at + 4 + n)) (no Short at) (judged (rule bs) (bs, at + 4 + n) at)))) ≡ ok w
          → pick t (ok (none, at + 4)) (pick (leb (half 4) n) (no Negative at) (pick (ltb most n) (no Limit at) (pick (ltb (length s) (at + 4 + n)) (no Short at) (judged fine (bs, at + 4 + n) at)))) ≡ ok w
      by_null n true e = e
      by_null n false e =
          let bs = take n (drop (at + 4) s) in
          let a = spared (leb (half 4) n) _ _ e in
          let b = spared (ltb most n) _ _ a.1 in
          let c = spared (ltb (length s) (at + 4 + n)) _ _ b.1 in
          simp (a.0, b.0, c.0) (unruled (rule bs) (bs, at + 4 + n) at c.1)
