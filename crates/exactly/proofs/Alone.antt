-- What is listed for one thing is a part of a field list alone, where every other part lists other fields, or has other indices.
use Prim.Native.Nat.{ℕ, zero, suc, ◌+◌, ◌≤◌}
use mathlib.Core.Path.{◌≡◌, refl, ◌∙◌, ap}
use mathlib.Core.Bool.{Bool, true, false, ◌||◌}
use mathlib.Core.List.{List, [], ◌∷◌, ◌++◌, map, append-nil}
use mathlib.Core.Option.{some, none}
use lib.ListN.{length, take, replicate, length-append, length-replicate}
use lib.Seq.{length-take-le}
use lib.Dec.{eqb}
use native.Mathlib.Omega.{arith}
use native.Mathlib.Nat.{add_assoc, add-zero, zero-add}
use borrow.Author.Tests.{eqb-true}
use Rattle.format.specs.declared.Fault.{Fault}
use Rattle.format.specs.Result.{ok, pick}
use Rattle.format.specs.Format.{Format, Index, Entry, Verdict, number, block, nothing, ruled, room, into, both, present, each, counted, piece}
use Rattle.format.specs.Value.{value}
use Rattle.format.specs.Message.{list}
use Rattle.format.proofs.Results.{ok_same, no_ok, and_true_both}
use Rattle.places.specs.Entries.{entry}
use Rattle.places.proofs.Lists.{total, length-total, entry_below, entry_same}
use Rattle.places.proofs.Layouts.{length-count}
use Rattle.exactly.specs.Listed.{is_of, listed_for}

-- a field at some indices that is none of the fields l and b at ix
pub record Other (l b : ℕ) (ix : Index) (n : ℕ) (y : Index) : Type 0 where
  pub not_l : n ≡ l → y.i ≡ ix.i → y.j ≡ ix.j → y.k ≡ ix.k → ⊥
  pub not_b : n ≡ b → y.i ≡ ix.i → y.j ≡ ix.j → y.k ≡ ix.k → ⊥

module _ (l b : ℕ) (ix : Index) where
  other : (e : Entry) → Other l b ix e.field e.index → is_of l b ix e ≡ false
  other e h = by_test (is_of l b ix e) refl
    where
      field_not : (t : Bool) → eqb e.field l ≡ t → t || eqb e.field b ≡ true → e.index.i ≡ ix.i → e.index.j ≡ ix.j → e.index.k ≡ ix.k → ⊥
      field_not true is w = h.not_l (eqb-true _ _ is)
      field_not false is w = h.not_b (eqb-true _ _ w)

      by_test : (t : Bool) → is_of l b ix e ≡ t → t ≡ false
      by_test true is =
          let w = and_true_both (eqb e.field l || eqb e.field b) _ is in
          let i = and_true_both (eqb e.index.i ix.i) _ w.1 in
          let jk = and_true_both (eqb e.index.j ix.j) _ i.1 in
          absurd (field_not (eqb e.field l) refl w.0 (eqb-true _ _ i.0) (eqb-true _ _ jk.0) (eqb-true _ _ jk.1))
      by_test false is = refl

  pub listed_both : (es fs : List Entry) → listed_for l b ix (es ++ fs) ≡ listed_for l b ix es ++ listed_for l b ix fs
  unfolding listed_for
  listed_both [] fs = refl
  listed_both (e ∷ es) fs = by_test (listed_both es fs) (is_of l b ix e)
    where
      by_test : listed_for l b ix (es ++ fs) ≡ listed_for l b ix es ++ listed_for l b ix fs → (t : Bool)
          → pick t (e ∷ listed_for l b ix (es ++ fs)) (listed_for l b ix (es ++ fs)) ≡ pick t (e ∷ listed_for l b ix es) (listed_for l b ix es) ++ listed_for l b ix fs
      by_test h true = ap (λ (z : List Entry). e ∷ z) h
      by_test h false = h

  listed_none : listed_for l b ix [] ≡ []
  unfolding listed_for
  listed_none = refl

  pub in_front_lem : (fs gs : List Entry) {es : List Entry} → listed_for l b ix gs ≡ [] → listed_for l b ix fs ≡ es → listed_for l b ix (fs ++ gs) ≡ es
  in_front_lem fs gs h w = listed_both fs gs ∙ rw (h, append-nil) w

  pub in_back : (fs gs : List Entry) {es : List Entry} → listed_for l b ix fs ≡ [] → listed_for l b ix gs ≡ es → listed_for l b ix (fs ++ gs) ≡ es
  in_back fs gs h w = listed_both fs gs ∙ rw h w

  pub none_piece : (n o field : ℕ) (jx : Index) → Other l b ix field jx → listed_for l b ix (piece n o field jx) ≡ []
  unfolding listed_for
  none_piece zero o field jx h = refl
  none_piece (suc n) o field jx h = rw (other (record { at = o; size = suc n; field = field; index = jx }) h)

  -- no entry of a format is listed for it, whatever the value and its place
  pub record Misses {A : Type 0} (f : Format A) (jx : Index) : Type 0 where
    pub none : (o : ℕ) (a : A) → listed_for l b ix (f.fields jx o a) ≡ []

-- some formats that are one are one for each of some numbers
same_formats : {A : Type 0} (n : ℕ) (f : Format A) → map (λ (u : ℕ). f) (replicate n 0) ≡ replicate n f
same_formats zero f = refl
same_formats {A} (suc n) f = ap (λ (z : List (Format A)). f ∷ z) (same_formats n f)

-- ---- formats that list nothing for it
module _ {l b : ℕ} {ix jx : Index} where
  pub misses_number : (k field : ℕ) → Other l b ix field jx → Misses l b ix (number k field) jx
  unfolding number
  misses_number k field h = record { none = λ o a. none_piece l b ix k o field jx h }

  pub misses_block : (n field : ℕ) → Other l b ix field jx → Misses l b ix (block n field) jx
  unfolding block
  misses_block n field h = record { none = λ o a. none_piece l b ix n o field jx h }

  pub misses_counted : (nullable : Bool) (most : ℕ) (rule : List ℕ → Verdict) (s t : ℕ) → Other l b ix s jx → Other l b ix t jx → Misses l b ix (counted nullable most rule s t) jx
  unfolding counted
  misses_counted nullable most rule s t p q = record {
    none = λ o. elim [
      | none ↦ none_piece l b ix 4 o s jx p
      | some bs ↦ in_back l b ix (piece 4 o s jx) (piece (length bs) (o + 4) t jx) (none_piece l b ix 4 o s jx p) (none_piece l b ix (length bs) (o + 4) t jx q)
    ];
  }

module _ {l b : ℕ} {ix jx : Index} {A : Type 0} where
  pub misses_nothing : (a : A) → Misses l b ix (nothing a) jx
  unfolding nothing listed_for
  misses_nothing a = record { none = λ o b. refl }

  pub misses_ruled : (rule : A → Bool) (fault : Fault) {f : Format A} → Misses l b ix f jx → Misses l b ix (ruled rule fault f) jx
  unfolding ruled
  misses_ruled rule fault w = record { none = w.none }

  pub misses_room : (most field : ℕ) {f : Format A} → Other l b ix field jx → Misses l b ix f jx → Misses l b ix (room most field f) jx
  unfolding room
  misses_room most field {f} h w = record { none = λ o a. in_back l b ix (piece 4 o field jx) (f.fields jx (o + 4) a) (none_piece l b ix 4 o field jx h) (w.none (o + 4) a) }

  pub misses_pick : (t : Bool) {f g : Format A} → Misses l b ix f jx → Misses l b ix g jx → Misses l b ix (pick t f g) jx
  misses_pick true p q = p
  misses_pick false p q = q

module _ {l b : ℕ} {ix jx : Index} {A B : Type 0} where
  pub misses_into : (to : A → B) (from : B → A) {f : Format A} → Misses l b ix f jx → Misses l b ix (into to from f) jx
  unfolding into
  misses_into to from w = record { none = λ o v. w.none o (from v) }

  pub misses_both : {f : Format A} {g : A → Format B} → Misses l b ix f jx → ((a : A) → Misses l b ix (g a) jx) → Misses l b ix (both f g) jx
  unfolding both
  misses_both {f} {g} p q = record {
    none = λ o v. in_back l b ix (f.fields jx o v.0) ((g v.0).fields jx (o + length (f.bytes v.0)) v.1) (p.none o v.0) ((q v.0).none (o + length (f.bytes v.0)) v.1);
  }

module _ {l b : ℕ} {ix jx : Index} {A : Type 0} where
  pub misses_present : (t : Bool) (d : A) {f : Format A} → Misses l b ix f jx → Misses l b ix (present t d f) jx
  unfolding present
  misses_present true d w = misses_into _ _ w
  misses_present false d w = misses_nothing none

  -- of some values none is, if none is at their indices
  module _ (at-index : ℕ → Index → Index) where
    misses_nil : (k : ℕ) → Misses l b ix (each {A = A} at-index k []) jx
    unfolding each
    misses_nil k = misses_nothing []

    misses_cons : (k : ℕ) (f : Format A) (fs : List (Format A)) → Misses l b ix f (at-index k jx) → Misses l b ix (each at-index (k + 1) fs) jx → Misses l b ix (each at-index k (f ∷ fs)) jx
    unfolding each listed_for
    misses_cons k f fs p q = record {
      none = λ o. elim [
        | [] ↦ refl
        | a ∷ v ↦ in_back l b ix (f.fields (at-index k jx) o a) ((each at-index (k + 1) fs).fields jx (o + length (f.bytes a)) v) (p.none o a) (q.none (o + length (f.bytes a)) v)
      ];
    }

    pub misses_map : (k : ℕ) (g : ℕ → Format A) (xs : List ℕ) → ((x j : ℕ) → k ≤ j → Misses l b ix (g x) (at-index j jx)) → Misses l b ix (each at-index k (map g xs)) jx
    misses_map k g [] w = misses_nil k
    misses_map k g (x ∷ xs) w = misses_cons k (g x) (map g xs) (w x k (omega arith)) (misses_map (k + 1) g xs (λ y j h. w y j (omega arith)))

    pub misses_some : (k n : ℕ) {f : Format A} → ((j : ℕ) → k ≤ j → Misses l b ix f (at-index j jx)) → Misses l b ix (each at-index k (replicate n f)) jx
    misses_some k n {f} w = rw (← same_formats n f) (misses_map k (λ u. f) (replicate n 0) (λ u. w))

    pub misses_list : (k most field : ℕ) {f : Format A} → Other l b ix field jx → ((j : ℕ) → Misses l b ix f (at-index j jx)) → Misses l b ix (list k most field at-index f) jx
    unfolding list
    misses_list k most field {f} h w = misses_into _ _ (misses_both (misses_ruled _ _ (misses_ruled _ _ (misses_number k field h))) (λ n. misses_some 0 n (λ j z. w j)))

-- by which a format is looked through
pub ruleset misses = (misses_number, misses_block, misses_counted, misses_nothing, misses_ruled, misses_room, misses_pick, misses_into, misses_both, misses_present, misses_some, misses_map, misses_list)

-- a value
module _ {l b : ℕ} {ix jx : Index} where
  pub misses_value : (s t w : ℕ) → Other l b ix s jx → Other l b ix t jx → Misses l b ix (value s t w) jx
  unfolding value
  misses_value s t w p q = search misses depth 8

-- ---- es is what is listed for it among the entries of a value: so where that is a part of another, whose other parts list nothing for it
pub record Alone (l b : ℕ) (ix : Index) (es : List Entry) {A : Type 0} (f : Format A) (jx : Index) (o : ℕ) (a : A) : Type 0 where
  pub is : listed_for l b ix (f.fields jx o a) ≡ es

module _ {l b : ℕ} {ix jx : Index} {es : List Entry} {o : ℕ} {A : Type 0} where
  pub in_room : (most field : ℕ) {f : Format A} {a : A} → Other l b ix field jx → Alone l b ix es f jx (o + 4) a → Alone l b ix es (room most field f) jx o a
  unfolding room
  in_room most field {f} {a} h w = record { is = in_back l b ix (piece 4 o field jx) (f.fields jx (o + 4) a) (none_piece l b ix 4 o field jx h) w.is }

  pub in_ruled : (rule : A → Bool) (fault : Fault) {f : Format A} {a : A} → Alone l b ix es f jx o a → Alone l b ix es (ruled rule fault f) jx o a
  unfolding ruled
  in_ruled rule fault w = record { is = w.is }

module _ {l b : ℕ} {ix jx : Index} {es : List Entry} {o : ℕ} {A B : Type 0} where
  pub in_into : (to : A → B) (from : B → A) {f : Format A} {v : B} → Alone l b ix es f jx o (from v) → Alone l b ix es (into to from f) jx o v
  unfolding into
  in_into to from w = record { is = w.is }

  pub in_first : {f : Format A} {g : A → Format B} {v : A × B} → ((a : A) → Misses l b ix (g a) jx) → Alone l b ix es f jx o v.0 → Alone l b ix es (both f g) jx o v
  unfolding both
  in_first {f} {g} {v} h w = record { is = in_front_lem l b ix (f.fields jx o v.0) _ ((h v.0).none (o + length (f.bytes v.0)) v.1) w.is }

  pub in_second : {f : Format A} (g : A → Format B) {v : A × B} → Misses l b ix f jx → Alone l b ix es (g v.0) jx (o + length (f.bytes v.0)) v.1 → Alone l b ix es (both f g) jx o v
  unfolding both
  in_second {f} g {v} h w = record { is = in_back l b ix _ ((g v.0).fields jx (o + length (f.bytes v.0)) v.1) (h.none o v.0) w.is }

-- the i-th of some values, where none is at another index
module _ {l b : ℕ} {ix : Index} {A : Type 0} {es : List Entry} (at-index : ℕ → Index → Index) {jx : Index} where
  in_from : (k : ℕ) (g : ℕ → Format A) (xs : List ℕ) (v : List A) (i o : ℕ) {x : ℕ} {a : A} → entry xs i ≡ ok x → entry v i ≡ ok a → ((y j : ℕ) → (j ≡ k + i → ⊥) → Misses l b ix (g y) (at-index j jx))
      → Alone l b ix es (g x) (at-index (k + i) jx) (o + length ((each at-index k (map g xs)).bytes (take i v))) a → Alone l b ix es (each at-index k (map g xs)) jx o v
  unfolding each nothing
  in_from k g [] v i o p q h w = absurd (no_ok p)
  in_from k g (y ∷ xs) [] i o p q h w = absurd (no_ok q)
  in_from k g (y ∷ xs) (u ∷ v) zero o p q h w =
      record { is = in_front_lem l b ix _ _ ((misses_map at-index (k + 1) g xs (λ z j s. h z j (λ e. omega arith))).none (o + length ((g y).bytes u)) v) (rw (add-zero k, add-zero o, ← ok_same p, ← ok_same q) at w).is }
  in_from k g (y ∷ xs) (u ∷ v) (suc i) o p q h w =
      let next : k + suc i ≡ k + 1 + i = omega arith in
      record {
        is = in_back l b ix _ _ ((h y k (λ e. omega arith)).none o u)
            (in_from (k + 1) g xs v i (o + length ((g y).bytes u)) p q (λ z j s. h z j (λ e. s (omega arith))) (rw (next, length-append, ← add_assoc o) at w)).is;
      }

  pub in_cells : (g : ℕ → Format A) (xs : List ℕ) (v : List A) (i : ℕ) {o x : ℕ} {a : A} → entry xs i ≡ ok x → entry v i ≡ ok a → ((y j : ℕ) → (j ≡ i → ⊥) → Misses l b ix (g y) (at-index j jx))
      → Alone l b ix es (g x) (at-index i jx) (o + length ((each at-index 0 (map g xs)).bytes (take i v))) a → Alone l b ix es (each at-index 0 (map g xs)) jx o v
  in_cells g xs v i {o} p q h w = in_from 0 g xs v i o p q (λ y j s. h y j (λ e. s (omega arith))) (rw zero-add w)

  pub in_some : (n : ℕ) {f : Format A} (v : List A) (i : ℕ) {o : ℕ} {a : A} → length v ≤ n → entry v i ≡ ok a → ((j : ℕ) → (j ≡ i → ⊥) → Misses l b ix f (at-index j jx))
      → Alone l b ix es f (at-index i jx) (o + total f (take i v)) a → Alone l b ix es (each at-index 0 (replicate n f)) jx o v
  in_some n {f} v i few e h w =
      let below = entry_below v i e in
      let size : length ((each at-index 0 (map (λ (u : ℕ). f) (replicate n 0))).bytes (take i v)) ≡ total f (take i v)
      = rw (same_formats n f) (length-total at-index 0 n f (take i v) (omega (arith, length-take-le i v (omega arith)))) in
      rw (← same_formats n f) (in_cells (λ u. f) (replicate n 0) v i (entry_same n i 0 (omega arith)) e (λ y. h) (rw size w))

  pub in_list : (k most field : ℕ) {f : Format A} (v : List A) (i : ℕ) {o : ℕ} {a : A} → entry v i ≡ ok a → Other l b ix field jx → ((j : ℕ) → (j ≡ i → ⊥) → Misses l b ix f (at-index j jx))
      → Alone l b ix es f (at-index i jx) (o + k + total f (take i v)) a → Alone l b ix es (list k most field at-index f) jx o v
  unfolding list
  in_list k most field v i e h others w = in_into _ _ (in_second _ (search (misses, h)) (in_some (length v) v i (omega arith) e others (rw length-count w)))

-- and none, if there are no more than i
module _ {l b : ℕ} {ix : Index} {A : Type 0} (at-index : ℕ → Index → Index) {jx : Index} where
  past_from : (k : ℕ) (g : ℕ → Format A) (xs : List ℕ) (v : List A) (i o : ℕ) → length xs ≤ i → ((y j : ℕ) → (j ≡ k + i → ⊥) → Misses l b ix (g y) (at-index j jx)) → Alone l b ix [] (each at-index k (map g xs)) jx o v
  unfolding each nothing
  past_from k g [] v i o few h = record { is = listed_none l b ix }
  past_from k g (y ∷ xs) [] i o few h = record { is = listed_none l b ix }
  past_from k g (y ∷ xs) (u ∷ v) zero o few h = absurd (omega arith)
  past_from k g (y ∷ xs) (u ∷ v) (suc i) o few h =
      record { is = in_back l b ix _ _ ((h y k (λ e. omega arith)).none o u) (past_from (k + 1) g xs v i (o + length ((g y).bytes u)) (omega arith) (λ z j s. h z j (λ e. s (omega arith)))).is }

  pub past_cells : (g : ℕ → Format A) (xs : List ℕ) (v : List A) (i : ℕ) {o : ℕ} → length xs ≤ i → ((y j : ℕ) → (j ≡ i → ⊥) → Misses l b ix (g y) (at-index j jx)) → Alone l b ix [] (each at-index 0 (map g xs)) jx o v
  past_cells g xs v i {o} few h = past_from 0 g xs v i o few (λ y j s. h y j (λ e. s (omega arith)))

  pub past_list : (k most field : ℕ) {f : Format A} (v : List A) (i : ℕ) {o : ℕ} → length v ≤ i → Other l b ix field jx → ((j : ℕ) → (j ≡ i → ⊥) → Misses l b ix f (at-index j jx)) → Alone l b ix [] (list k most field at-index f) jx o v
  unfolding list
  past_list k most field {f} v i few h others =
      in_into _ _ (in_second _ (search (misses, h)) (rw (← same_formats (length v) f) (past_cells (λ u. f) (replicate (length v) 0) v i (rw length-replicate few) (λ u. others))))
