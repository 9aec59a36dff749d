-- What a walk over a value meets, by how its format is made: each law here makes the walk over a format from walks over its parts.
use Rattle.std.proofs.Common.{◌≡◌, ℕ, suc, ◌+◌, ◌-◌, ◌≤◌, Bool, true, false, ◌&&◌, eqb, ltb, leb, List, [], ◌∷◌, length, get_or, take, drop, sym, refl, ap, ◌∙◌, subst, true≢false, arith, length-drop, length-take-le, w8, Fits, ltb-false, eqb-true, le-leb, leb-false, leb-true}
use mathlib.Core.Option.{Option, some, none}
use borrow.Author.Tests.{eqb-false}
use Rattle.format.specs.declared.Fault.{Fault}
use Rattle.format.specs.declared.Fault.TheVariants.{Short, Negative, Limit}
use Rattle.format.specs.Result.{Res, ok, no, pick}
use Rattle.format.specs.Number.{num_at, Bytes, half, null4}
use Rattle.format.specs.Format.{Format, Index, number, block, nothing, ruled, into, both, counted, Verdict, fine, bad, judged}
use Rattle.format.proofs.Results.{ok_same, no_ok, passed, spared, bound, and_true_both}
use Rattle.format.proofs.Laws.{Lawful}
use Rattle.scan.proofs.Answers.{took}
use Rattle.tally.specs.declared.Tour.{Tour}
use Rattle.tally.specs.declared.Indices.{Indices}
use Rattle.tally.specs.Task.{visited}
use Rattle.tally.specs.Walks.{state_of, index_of, Stepped, Walked}
use Rattle.tally.proofs.Visits.{visited_both}

module _ {A : Type 0} (f : Format A) (s : List ℕ) (ix : Index) (tour : Tour) (out : List ℕ) (after : Tour) (written : List ℕ) where
  -- what a walk does for the value and the end that a reading gave
  abbrev pub Shows : A × ℕ → Type 0
  Shows w = (after.at ≡ w.1) × (state_of after written ≡ visited (state_of tour out) (f.fields ix tour.at w.0))

  pub shows : {v w : A × ℕ} → ok v ≡ ok w → Shows v → Shows w
  shows e h = subst Shows (ok_same e) h

module _ (s : List ℕ) {ix : Index} {tour : Tour} {out : List ℕ} {after : Tour} {written : List ℕ} where
  -- bytes as they are, and a number
  pub walked_block : (n field : ℕ) → Walked (number n field) s ix tour out after written → Walked (block n field) s ix tour out after written
  unfolding number block
  walked_block n field t = record {
    goes = λ a next e.
        let h = passed (leb (tour.at + n) (length s)) _ _ e in
        let w = t.goes (num_at n s tour.at) (tour.at + n) (rw h.0) in
        shows (block n field) s ix tour out after written h.1 w;
  }

  pub walked_ruled : {A : Type 0} (test : A → Bool) (fault : Fault) {f : Format A} → Walked f s ix tour out after written → Walked (ruled test fault f) s ix tour out after written
  unfolding ruled
  walked_ruled test fault {f} t = record {
    goes = λ a next e.
        let r = bound (f.read s tour.at) e in
        let h = passed (test r.0.0) _ _ r.2 in
        shows (ruled test fault f) s ix tour out after written h.1 (t.goes r.0.0 r.0.1 r.1);
  }

  pub walked_into : {A B : Type 0} (to : A → B) (from : B → A) {f : Format A} → Bytes s → Lawful f → ((a : A) → f.Good a → from (to a) ≡ a)
      → Walked f s ix tour out after written → Walked (into to from f) s ix tour out after written
  unfolding into
  walked_into {A} {B} to from {f} b l back t = record {
    goes = λ a next e.
        let r = bound (f.read s tour.at) e in
        let w = t.goes r.0.0 r.0.1 r.1 in
        let same : from (to r.0.0) ≡ r.0.0 = back r.0.0 (l.sound s b tour.at r.0.0 r.0.1 r.1).0 in
        let known : (z : A) → z ≡ r.0.0 → state_of after written ≡ visited (state_of tour out) (f.fields ix tour.at z) = λ z i. rw i w.1 in
        shows (into to from f) s ix tour out after written r.2 (w.0, known _ same);
  }

-- a number, to the place past its bytes
module _ (s : List ℕ) {tour : Tour} {out : List ℕ} {after : Tour} {written : List ℕ} where
  pub walked_number : (k field : ℕ) {ix : Indices} {end : ℕ} → (tour.at + k ≤ length s → end ≡ tour.at + k) → Stepped field ix tour out end after written
      → Walked (number k field) s (index_of ix) tour out after written
  unfolding number
  walked_number k field {ix} {end} far l = record {
    goes = λ a next e.
        let h = passed (leb (tour.at + k) (length s)) _ _ e in
        let there : end ≡ tour.at + k = far (leb-true _ _ h.0) in
        let size : end - tour.at ≡ k = omega arith in
        shows (number k field) s (index_of ix) tour out after written h.1 (l.place ∙ there, rw (← size) l.state);
  }

-- nothing, which leaves the tour as it is
module _ (s : List ℕ) {ix : Index} (tour : Tour) (out : List ℕ) where
  pub walked_nothing : {A : Type 0} (a : A) → Walked (nothing a) s ix tour out tour out
  unfolding nothing visited
  walked_nothing a = record { goes = λ v next e. shows (nothing a) s ix tour out tour out e (refl, refl) }

-- one value and then another
module _ {s : List ℕ} (b : Bytes s) {ix : Index} {tour : Tour} {out : List ℕ} {mid : Tour} {half : List ℕ} {after : Tour} {written : List ℕ} where
  pub walked_both : {A B : Type 0} {f : Format A} {g : A → Format B} → Lawful f → Walked f s ix tour out mid half
      → ((a : A) (n : ℕ) → f.read s tour.at ≡ ok (a, n) → Walked (g a) s ix mid half after written) → Walked (both f g) s ix tour out after written
  unfolding both
  walked_both {A} {B} {f} {g} l t u = record {
    goes = λ v next e.
        let r = bound (f.read s tour.at) e in
        let a = r.0.0 in
        let q = bound ((g a).read s r.0.1) r.2 in
        let x = t.goes a r.0.1 r.1 in
        let y = (u a r.0.1 r.1).goes q.0.0 q.0.1 (rw x.0 q.1) in
        let far : mid.at ≡ tour.at + length (f.bytes a) = x.0 ∙ (l.sound s b tour.at a r.0.1 r.1).1.far in
        shows (both f g) s ix tour out after written q.2 (y.0, rw (visited_both, ← far, ← x.1) y.1);
  }

-- a length and a body, read: null, or n bytes after the length
pub record Null (s : List ℕ) (at : ℕ) (v : Option (List ℕ)) (next : ℕ) : Type 0 where
  pub none_there : v ≡ none
  pub end : next ≡ at + 4

pub record Some (s : List ℕ) (at n : ℕ) (v : Option (List ℕ)) (next : ℕ) : Type 0 where
  pub body : List ℕ
  pub there : v ≡ some body
  pub size : length body ≡ n
  pub fit : at + 4 + n ≤ length s
  pub end : next ≡ at + 4 + n

fair : (v : Verdict) (bs : List ℕ) (end at : ℕ) (w : Option (List ℕ) × ℕ) → judged v (bs, end) at ≡ ok w → ok (some bs, end) ≡ ok w
fair fine bs end at w e = e
fair (bad f n) bs end at w e = absurd (no_ok e)

module _ (most : ℕ) (rule : List ℕ → Verdict) (s : List ℕ) (at n next : ℕ) (v : Option (List ℕ)) where
  abbrev tests : Bool → Res (Option (List ℕ) × ℕ)
  tests t =
      pick t (ok (none, at + 4))
      (pick (leb (half 4) n) (no Negative at)
      (pick (ltb most n) (no Limit at)
      (pick (ltb (length s) (at + 4 + n)) (no Short at)
      (judged (rule (take n (drop (at + 4) s))) (take n (drop (at + 4) s), at + 4 + n) at))))

  is_null : (t : Bool) → n ≡ null4 → tests t ≡ ok (v, next) → Null s at v next
  is_null true z e = record { none_there = sym (ap (λ (w : Option (List ℕ) × ℕ). w.0) (ok_same e)); end = sym (ap (λ (w : Option (List ℕ) × ℕ). w.1) (ok_same e)) }
  is_null false z e =
      let h = spared (leb (half 4) n) _ _ e in
      absurd (omega (arith, leb-false (half 4) n h.0))

  not_null : (t : Bool) → t ≡ false → tests t ≡ ok (v, next) → n ≡ null4 → ⊥
  not_null true never e z = true≢false never
  not_null false never e z = let low = leb-false (half 4) n (spared (leb (half 4) n) _ _ e).0 in omega arith

  is_some : (nullable t : Bool) → nullable && eqb n null4 ≡ t → (n ≡ null4 → ⊥) → tests t ≡ ok (v, next) → Some s at n v next
  is_some nullable true i z e = absurd (z (eqb-true n null4 (and_true_both nullable (eqb n null4) i).1))
  is_some nullable false i z e =
      let t₁ = spared (leb (half 4) n) _ _ e in
      let t₂ = spared (ltb most n) _ _ t₁.1 in
      let t₃ = spared (ltb (length s) (at + 4 + n)) _ _ t₂.1 in
      let fit : at + 4 + n ≤ length s = ltb-false (length s) (at + 4 + n) t₃.0 in
      let bs = take n (drop (at + 4) s) in
      let same = ok_same (fair (rule bs) bs (at + 4 + n) at (v, next) t₃.1) in
      record {
        body = bs;
        there = sym (ap (λ (w : Option (List ℕ) × ℕ). w.0) same);
        size = length-take-le n (drop (at + 4) s) (simp length-drop (omega arith));
        fit = fit;
        end = sym (ap (λ (w : Option (List ℕ) × ℕ). w.1) same);
      }

-- a counted body, whether it may be null or not and whatever its rule: n is what stands for its length
module _ (s : List ℕ) {ix : Index} {tour : Tour} {out : List ℕ} {mid : Tour} {written : List ℕ} (nullable : Bool) (most : ℕ) (rule : List ℕ → Verdict) (l b n : ℕ)
    (told : (m next : ℕ) → (number 4 0).read s tour.at ≡ ok (m, next) → n ≡ m) (t : Walked (number 4 l) s ix tour out mid written) where
  pub walked_null : n ≡ null4 → Walked (counted nullable most rule l b) s ix tour out mid written
  unfolding counted number
  walked_null z = record {
    goes = λ v next e.
        let r = bound ((number 4 l).read s tour.at) e in
        let same : n ≡ r.0.0 = told r.0.0 r.0.1 r.1 in
        let w = is_null most rule s tour.at r.0.0 next v (nullable && eqb r.0.0 null4) (sym same ∙ z) r.2 in
        let x = t.goes r.0.0 r.0.1 r.1 in
        let place = (took 4 l s tour.at r.0.0 r.0.1 r.1).place in
        (x.0 ∙ place ∙ sym w.end, rw w.none_there x.1);
  }

  -- a null, and no bytes after it
  pub walked_none : {after : Tour} {more : List ℕ} → n ≡ null4 → Walked (number 0 b) s ix mid written after more → Walked (counted nullable most rule l b) s ix tour out after more
  unfolding counted number visited
  walked_none z u = record {
    goes = λ v next e.
        let r = bound ((number 4 l).read s tour.at) e in
        let same : n ≡ r.0.0 = told r.0.0 r.0.1 r.1 in
        let w = is_null most rule s tour.at r.0.0 next v (nullable && eqb r.0.0 null4) (sym same ∙ z) r.2 in
        let x = t.goes r.0.0 r.0.1 r.1 in
        let length-there = took 4 l s tour.at r.0.0 r.0.1 r.1 in
        let fit : mid.at + 0 ≤ length s = omega (arith, x.0, length-there.place, length-there.fit) in
        let y = u.goes (num_at 0 s mid.at) (mid.at + 0) (rw (le-leb _ _ fit)) in
        (omega (arith, y.0, x.0, length-there.place, w.end), rw w.none_there (y.1 ∙ x.1));
  }

  pub walked_some : {after : Tour} {more : List ℕ} → (n ≡ null4 → ⊥) → Walked (number n b) s ix mid written after more → Walked (counted nullable most rule l b) s ix tour out after more
  unfolding counted number
  walked_some {after} {more} z u = record {
    goes = λ v next e.
        let r = bound ((number 4 l).read s tour.at) e in
        let same : n ≡ r.0.0 = told r.0.0 r.0.1 r.1 in
        let w = is_some most rule s tour.at r.0.0 next v nullable (nullable && eqb r.0.0 null4) refl (λ i. z (same ∙ i)) r.2 in
        let x = t.goes r.0.0 r.0.1 r.1 in
        let place : mid.at ≡ tour.at + 4 = x.0 ∙ (took 4 l s tour.at r.0.0 r.0.1 r.1).place in
        let fit : mid.at + n ≤ length s = omega (arith, w.fit) in
        let y = u.goes (num_at n s mid.at) (mid.at + n) (rw (le-leb _ _ fit)) in
        let size : length w.body ≡ n = w.size ∙ sym same in
        (omega (arith, y.0, w.end), rw (w.there, visited_both, size, ← place, ← x.1) y.1);
  }

  -- a body that can't be null
  pub walked_there : {after : Tour} {more : List ℕ} → nullable ≡ false → Walked (number n b) s ix mid written after more → Walked (counted nullable most rule l b) s ix tour out after more
  unfolding counted number
  walked_there {after} {more} never u = by_case (eqb n null4) refl
    where
      by_case : (null : Bool) → eqb n null4 ≡ null → Walked (counted nullable most rule l b) s ix tour out after more
      by_case false z = walked_some (eqb-false n null4 z) u
      by_case true z = record {
        goes = λ v next e.
            let r = bound ((number 4 l).read s tour.at) e in
            let same : n ≡ r.0.0 = told r.0.0 r.0.1 r.1 in
            absurd (not_null most rule s tour.at r.0.0 next v (nullable && eqb r.0.0 null4) (ap (λ (t : Bool). t && eqb r.0.0 null4) never) r.2 (sym same ∙ eqb-true n null4 z));
      }

  -- a null or not: as many bytes as there are
  pub walked_sized : {size : ℕ} {after : Tour} {more : List ℕ} → size ≡ pick (eqb n null4) 0 n → Walked (number size b) s ix mid written after more → Walked (counted nullable most rule l b) s ix tour out after more
  walked_sized {size} {after} {more} is u = by_case (eqb n null4) refl is
    where
      by_case : (null : Bool) → eqb n null4 ≡ null → size ≡ pick null 0 n → Walked (counted nullable most rule l b) s ix tour out after more
      by_case true z m = walked_none (eqb-true n null4 z) (rw m at u)
      by_case false z m = walked_some (eqb-false n null4 z) (rw m at u)

-- a slice's bytes
pub bytes_all : (s : List ℕ) → ((k : ℕ) → Fits w8 (get_or s k 0)) → Bytes s
bytes_all [] every = tt
bytes_all (b ∷ s) every = ((every 0).fits, bytes_all s (λ k. every (suc k)))

module _ (s : List ℕ) (by : Bytes s) {ix : Index} {tour : Tour} {out : List ℕ} {after : Tour} {written : List ℕ} where
  module _ {mid : Tour} {half : List ℕ} where
    -- one value, and then another that doesn't look at it
    pub walked_then : {A B : Type 0} {f : Format A} {g : Format B} → Lawful f → Walked f s ix tour out mid half → Walked g s ix mid half after written
        → Walked (both f (λ a. g)) s ix tour out after written
    walked_then {g = g} l t u = walked_both by {g = λ a. g} l t (λ a n e. u)

    -- one value, known as t, and then another that it decides
    pub walked_by : {A B : Type 0} {f : Format A} (g : A → Format B) → Lawful f → {t : A} → ((m : A) (next : ℕ) → f.read s tour.at ≡ ok (m, next) → t ≡ m) → Walked f s ix tour out mid half
        → Walked (g t) s ix mid half after written → Walked (both f g) s ix tour out after written
    walked_by g l {t} told w u =
        walked_both by {g = g} l w (λ m next e. let same : t ≡ m = told m next e in rw same at u)
