-- What a loop over some values keeps: what is left to read ends where all of them do, and its fields, after those met, are all the fields.
use Rattle.std.proofs.Common.{◌≡◌, ℕ, suc, ◌+◌, ◌-◌, ◌<◌, ◌≤◌, List, ◌∷◌, map, length, get_or, replicate, refl, ap, ◌∙◌, subst, arith}
use Rattle.format.specs.Result.{ok}
use Rattle.format.specs.Number.{Bytes}
use Rattle.format.specs.Format.{Format, Index, nothing, each}
use Rattle.format.proofs.Results.{ok_same, bound}
use Rattle.format.proofs.Laws.{Lawful}
use Rattle.scan.proofs.Loops.{formats, replicate-formats, map-formats}
use Rattle.tally.specs.declared.Tour.{Tour}
use Rattle.tally.specs.Task.{State, visited}
use Rattle.tally.specs.Walks.{state_of, Walked}
use Rattle.tally.proofs.Visits.{visited_both}

module _ {A : Type 0} (at-index : ℕ → Index → Index) (r : ℕ → Format A) (n : ℕ) where
  -- the values from the i-th on
  abbrev pub rest : ℕ → Format (List A)
  rest i = each at-index i (formats r i (n - i))

module _ {A : Type 0} (at-index : ℕ → Index → Index) (r : ℕ → Format A) (s : List ℕ) (ix : Index) (n : ℕ) (from : Tour) (old : List ℕ) where
  -- a tour that began at from, at the i-th of n values
  pub record Round (i : ℕ) (tour : Tour) (out : List ℕ) : Type 0 where
    pub left : (all : List A) (end : ℕ) → (rest at-index r n 0).read s from.at ≡ ok (all, end)
        → (bs : List A) × ((rest at-index r n i).read s tour.at ≡ ok (bs, end))
        × (visited (state_of tour out) ((rest at-index r n i).fields ix tour.at bs) ≡ visited (state_of from old) ((rest at-index r n 0).fields ix from.at all))

  pub round_first : Round 0 from old
  round_first = record { left = λ all end e. (all, e, refl) }

  pub round_last : {i : ℕ} {tour : Tour} {out : List ℕ} → n ≤ i → Round i tour out → Walked (rest at-index r n 0) s ix from old tour out
  unfolding each nothing formats visited
  round_last {i} {tour} {out} h w = record {
    goes = λ all end e.
        let none : n - i ≡ 0 = omega arith in
        let z = rw none at (w.left all end e) in
        let same = ok_same z.1 in
        (ap (λ (p : List A × ℕ). p.1) same, z.2);
  }

-- one value, and then the others
module _ {A : Type 0} (at-index : ℕ → Index → Index) (i : ℕ) {f : Format A} (fs : List (Format A)) (l : Lawful f) (s : List ℕ) (b : Bytes s) {ix : Index}
    {tour : Tour} {out : List ℕ} {after : Tour} {written : List ℕ} (t : Walked f s (at-index i ix) tour out after written) (total : State) where
  -- what is left after the first of the values w
  abbrev Onward : List A × ℕ → Type 0
  Onward w =
      visited (state_of tour out) ((each at-index i (f ∷ fs)).fields ix tour.at w.0) ≡ total
      → (cs : List A) × ((each at-index (i + 1) fs).read s after.at ≡ ok (cs, w.1))
      × (visited (state_of after written) ((each at-index (i + 1) fs).fields ix after.at cs) ≡ total)

  onward : (w : List A × ℕ) → (each at-index i (f ∷ fs)).read s tour.at ≡ ok w → Onward w
  unfolding each
  onward w e =
      let p = bound (f.read s tour.at) e in
      let a = p.0.0 in
      let q = bound ((each at-index (i + 1) fs).read s p.0.1) p.2 in
      let x = t.goes a p.0.1 p.1 in
      let far : after.at ≡ tour.at + length (f.bytes a) = x.0 ∙ (l.sound s b tour.at a p.0.1 p.1).1.far in
      subst Onward (ok_same q.2) (λ h. (q.0.0, rw x.0 q.1, rw (x.1, far, ← visited_both) h))

module _ {A : Type 0} (at-index : ℕ → Index → Index) (r : ℕ → Format A) (l : (i : ℕ) → Lawful (r i)) (s : List ℕ) (b : Bytes s) (ix : Index) (n : ℕ) {from : Tour} {old : List ℕ} where
  pub round_next : (i : ℕ) {tour : Tour} {out : List ℕ} {after : Tour} {written : List ℕ} → i < n → Round at-index r s ix n from old i tour out
      → Walked (r i) s (at-index i ix) tour out after written → Round at-index r s ix n from old (i + 1) after written
  unfolding formats
  round_next i h w t = record {
    left = λ all end e.
        let one : n - i ≡ suc (n - (i + 1)) = omega arith in
        let z = rw one at (w.left all end e) in
        onward at-index i (formats r (i + 1) (n - (i + 1))) (l i) s b t _ (z.0, end) z.1 z.2;
  }

-- all of n values of one format, and of one for each number of a list
module _ {A : Type 0} (at-index : ℕ → Index → Index) (s : List ℕ) {ix : Index} {from : Tour} {old : List ℕ} {tour : Tour} {out : List ℕ} where
  pub all_same : (f : Format A) (n : ℕ) → Walked (rest at-index (λ i. f) n 0) s ix from old tour out → Walked (each at-index 0 (replicate n f)) s ix from old tour out
  all_same f n t =
      let whole : n - 0 ≡ n = omega arith in
      let same : formats (λ i. f) 0 (n - 0) ≡ replicate n f = rw whole (replicate-formats f 0 n) in
      rw same at t

  pub all_map : (g : ℕ → Format A) (xs : List ℕ) → Walked (rest at-index (λ i. g (get_or xs i 0)) (length xs) 0) s ix from old tour out → Walked (each at-index 0 (map g xs)) s ix from old tour out
  all_map g xs t =
      let whole : length xs - 0 ≡ length xs = omega arith in
      let same : formats (λ i. g (get_or xs i 0)) 0 (length xs - 0) ≡ map g xs = rw whole (map-formats g xs) in
      rw same at t
