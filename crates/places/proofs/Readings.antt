-- What a reading that went well says of its parts, combinator by combinator: each was read too, and where it ended. Nothing is asked of the bytes.
use Prim.Native.Nat.{ℕ, suc, ◌+◌, ◌≤◌}
use mathlib.Core.Path.{◌≡◌, sym, ◌∙◌, ap}
use mathlib.Core.Bool.{Bool, true, false, ◌&&◌}
use mathlib.Core.List.{List, [], ◌∷◌}
use mathlib.Core.Option.{Option, some, none}
use lib.ListN.{length, take, drop, length-drop}
use lib.Seq.{length-take-le}
use lib.Dec.{leb, ltb, eqb}
use native.Mathlib.Omega.{arith}
use borrow.Author.Tests.{leb-true, ltb-false}
use Rattle.format.specs.declared.Fault.{Fault}
use Rattle.format.specs.declared.Fault.TheVariants.{Short, Negative, Limit}
use Rattle.format.specs.Result.{Res, ok, no, pick}
use Rattle.format.specs.Number.{half, null4}
use Rattle.format.specs.Format.{Format, Index, number, block, ruled, into, both, nothing, each, counted}
use Rattle.format.specs.Value.{string, anything, most_bytes}
use Rattle.format.proofs.Results.{bound, passed, spared, ok_same}
use Rattle.places.specs.Places.{after_text}

module _ {A B : Type 0} (s : List ℕ) where
  pub both_parts : (f : Format A) (g : A → Format B) (at : ℕ) (v : A × B) (next : ℕ) → (both f g).read s at ≡ ok (v, next)
      → (mid : ℕ) × (f.read s at ≡ ok (v.0, mid)) × ((g v.0).read s mid ≡ ok (v.1, next))
  unfolding both
  both_parts f g at v next e =
      let p = bound (f.read s at) e in
      let q = bound ((g p.0.0).read s p.0.1) p.2 in
      let same = ok_same q.2 in
      let first : p.0.0 ≡ v.0 = ap (λ (w : (A × B) × ℕ). w.0.0) same in
      let second : q.0 ≡ (v.1, next) = ap (λ (w : (A × B) × ℕ). (w.0.1, w.1)) same in
      (p.0.1, p.1 ∙ ap (λ (a : A). ok (a, p.0.1)) first, sym (ap (λ (a : A). (g a).read s p.0.1) first) ∙ q.1 ∙ ap ok second)

  pub into_parts : (to : A → B) (from : B → A) (f : Format A) (at : ℕ) (b : B) (next : ℕ) → (into to from f).read s at ≡ ok (b, next)
      → (a : A) × (f.read s at ≡ ok (a, next)) × (to a ≡ b)
  unfolding into
  into_parts to from f at b next e =
      let p = bound (f.read s at) e in
      let same = ok_same p.2 in
      (p.0.0, p.1 ∙ ap (λ (n : ℕ). ok (p.0.0, n)) (ap (λ (w : B × ℕ). w.1) same), ap (λ (w : B × ℕ). w.0) same)

module _ {A : Type 0} (s : List ℕ) where
  pub ruled_part : (test : A → Bool) (fault : Fault) (f : Format A) (at : ℕ) (a : A) (next : ℕ) → (ruled test fault f).read s at ≡ ok (a, next) → f.read s at ≡ ok (a, next)
  unfolding ruled
  ruled_part test fault f at a next e =
      let p = bound (f.read s at) e in
      p.1 ∙ (passed (test p.0.0) _ _ p.2).1

  -- as many values are read as there are formats
  pub each_length : (ix : ℕ → Index → Index) (k : ℕ) (fs : List (Format A)) (at : ℕ) (l : List A) (next : ℕ) → (each ix k fs).read s at ≡ ok (l, next) → length l ≡ length fs
  unfolding each nothing
  each_length ix k [] at l next e = sym (ap (λ (w : List A × ℕ). length w.0) (ok_same e))
  each_length ix k (f ∷ fs) at l next e =
      let p = bound (f.read s at) e in
      let q = bound ((each ix (k + 1) fs).read s p.0.1) p.2 in
      sym (ap (λ (w : List A × ℕ). length w.0) (ok_same q.2)) ∙ ap suc (each_length ix (k + 1) fs p.0.1 q.0.0 q.0.1 q.1)

-- a block has its size and is the bytes there; a string ends after its length and its bytes
module _ (s : List ℕ) (at : ℕ) where
  pub block_size : (n field : ℕ) (bs : List ℕ) (next : ℕ) → (block n field).read s at ≡ ok (bs, next) → length bs ≡ n
  unfolding block
  block_size n field bs next e =
      let t = passed (leb (at + n) (length s)) _ _ e in
      let room : at + n ≤ length s = leb-true _ _ t.0 in
      let fit : n ≤ length (drop at s) = simp length-drop (omega arith) in
      sym (ap (λ (w : List ℕ × ℕ). length w.0) (ok_same t.1)) ∙ length-take-le n (drop at s) fit

  pub block_held : (n field : ℕ) (bs : List ℕ) (next : ℕ) → (block n field).read s at ≡ ok (bs, next) → take (length bs) (drop at s) ≡ bs
  unfolding block
  block_held n field bs next e =
      let same : take n (drop at s) ≡ bs = ap (λ (w : List ℕ × ℕ). w.0) (ok_same (passed (leb (at + n) (length s)) _ _ e).1) in
      ap (λ (k : ℕ). take k (drop at s)) (block_size n field bs next e) ∙ same

  pub text_ends : (nullable : Bool) (l b : ℕ) (o : Option (List ℕ)) (next : ℕ) → (string nullable anything l b).read s at ≡ ok (o, next) → next ≡ after_text at o
  unfolding counted
  text_ends nullable l b o next e =
      let r = bound ((number 4 l).read s at) e in
      let n = r.0.0 in
      by_null n (nullable && eqb n null4) r.2
    where
      by_null : (n : ℕ) (t : Bool)
          → pick {A = Res (Option (List ℕ) × ℕ)} t (ok (none, at + 4))
          (pick (leb (half 4) n) (no Negative at)
          (pick (ltb most_bytes n) (no Limit at)
          (pick (ltb (length s) (at + 4 + n)) (no Short at)
          (ok (some (take n (drop (at + 4) s)), at + 4 + n))))) ≡ ok (o, next)
          → next ≡ after_text at o
      by_null n true h =
          let same = ok_same h in
          sym (ap (λ (w : Option (List ℕ) × ℕ). w.1) same) ∙ ap (λ (w : Option (List ℕ) × ℕ). after_text at w.0) same
      by_null n false h =
          let t₁ = spared (leb (half 4) n) _ _ h in
          let t₂ = spared (ltb most_bytes n) _ _ t₁.1 in
          let t₃ = spared (ltb (length s) (at + 4 + n)) _ _ t₂.1 in
          let same = ok_same t₃.1 in
          let room : at + 4 + n ≤ length s = ltb-false _ _ t₃.0 in
          let fit : n ≤ length (drop (at + 4) s) = simp length-drop (omega arith) in
          let size : length (take n (drop (at + 4) s)) ≡ n = length-take-le n (drop (at + 4) s) fit in
          sym (ap (λ (w : Option (List ℕ) × ℕ). w.1) same) ∙ ap (λ (k : ℕ). at + 4 + k) (sym size) ∙ ap (λ (w : Option (List ℕ) × ℕ). after_text at w.0) same
