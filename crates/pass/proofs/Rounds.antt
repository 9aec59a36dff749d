-- What a loop over some values keeps: what is left to pass ends where all of them do.
use Prim.Native.Nat.{ℕ, suc, ◌+◌, ◌-◌, ◌≤◌, ◌<◌}
use mathlib.Core.Path.{◌≡◌, ◌∙◌, ap}
use mathlib.Core.List.{List, ◌∷◌, map}
use lib.ListN.{length, replicate, get_or}
use native.Mathlib.Omega.{arith}
use Rattle.format.specs.Result.{ok}
use Rattle.format.specs.Format.{Format, Index, nothing, each}
use Rattle.format.proofs.Results.{ok_same, bound}
use Rattle.scan.proofs.Loops.{formats, replicate-formats, map-formats}
use Rattle.pass.specs.Passes.{Passes}

module _ {A : Type 0} (at-index : ℕ → Index → Index) (r : ℕ → Format A) (s : List ℕ) (n from : ℕ) where
  -- the values from the i-th on
  abbrev pub rest : ℕ → Format (List A)
  rest i = each at-index i (formats r i (n - i))

  -- at the i-th of n values that begin at from
  pub record Round (i at : ℕ) : Type 0 where
    pub left : (all : List A) (end : ℕ) → (rest 0).read s from ≡ ok (all, end) → (others : List A) × ((rest i).read s at ≡ ok (others, end))

  pub round_first : Round 0 from
  round_first = record { left = λ all end e. (all, e) }

  pub round_last : {i at : ℕ} → n ≤ i → Round i at → Passes (rest 0) s from at
  unfolding each nothing formats
  round_last {i} {at} h w = record {
    ends = λ all end e.
        let none : n - i ≡ 0 = omega arith in
        let z = rw none at (w.left all end e) in
        ap (λ (p : List A × ℕ). p.1) (ok_same z.1);
  }

  -- one value, and then the others
  onward : (i : ℕ) {f : Format A} (fs : List (Format A)) {at next : ℕ} → Passes f s at next → (all : List A) (end : ℕ) → (each at-index i (f ∷ fs)).read s at ≡ ok (all, end)
      → (others : List A) × ((each at-index (i + 1) fs).read s next ≡ ok (others, end))
  unfolding each
  onward i {f} fs {at} {next} t all end e =
      let p = bound (f.read s at) e in
      let q = bound ((each at-index (i + 1) fs).read s p.0.1) p.2 in
      let there : next ≡ p.0.1 = t.ends p.0.0 p.0.1 p.1 in
      let far : q.0.1 ≡ end = ap (λ (w : List A × ℕ). w.1) (ok_same q.2) in
      (q.0.0, rw there q.1 ∙ ap (λ (z : ℕ). ok (q.0.0, z)) far)

  pub round_next : (i : ℕ) {at next : ℕ} → i < n → Round i at → Passes (r i) s at next → Round (i + 1) next
  unfolding formats
  round_next i h w t = record {
    left = λ all end e.
        let one : n - i ≡ suc (n - (i + 1)) = omega arith in
        let z = rw one at (w.left all end e) in
        onward i (formats r (i + 1) (n - (i + 1))) t z.0 end z.1;
  }

-- all of n values of one format, and of one for each number of a list
module _ {A : Type 0} (at-index : ℕ → Index → Index) (s : List ℕ) {from at : ℕ} where
  pub all_same : (f : Format A) (n : ℕ) → Passes (rest at-index (λ i. f) s n from 0) s from at → Passes (each at-index 0 (replicate n f)) s from at
  all_same f n t =
      let whole : n - 0 ≡ n = omega arith in
      let same : formats (λ i. f) 0 (n - 0) ≡ replicate n f = rw whole (replicate-formats f 0 n) in
      rw same at t

  pub all_map : (g : ℕ → Format A) (xs : List ℕ) → Passes (rest at-index (λ i. g (get_or xs i 0)) s (length xs) from 0) s from at → Passes (each at-index 0 (map g xs)) s from at
  all_map g xs t =
      let whole : length xs - 0 ≡ length xs = omega arith in
      let same : formats (λ i. g (get_or xs i 0)) 0 (length xs - 0) ≡ map g xs = rw whole (map-formats g xs) in
      rw same at t
