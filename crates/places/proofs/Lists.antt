-- Values of a list that stand side by side: the i-th stands where those before it end, and a jump by lengths alone comes there.
use Rattle.std.specs.Prelude.{Ok}
use Prim.Native.Nat.{ℕ, zero, suc, ◌+◌, ◌≤◌, ◌<◌}
use mathlib.Core.Path.{◌≡◌, refl, sym, ◌∙◌, ap}
use mathlib.Core.Bool.{false}
use mathlib.Core.List.{List, [], ◌∷◌, ◌++◌, map, append_assoc}
use mathlib.Core.Option.{Option, some}
use lib.ListN.{length, take, replicate, length-append}
use lib.Dec.{lit<}
use native.Mathlib.Omega.{arith}
use native.Mathlib.Nat.{add_assoc}
use Rattle.format.specs.declared.Fault.{Fault}
use Rattle.format.specs.declared.Fault.TheVariants.{PastEnd}
use Rattle.format.specs.Result.{Res, ok, no}
use Rattle.format.specs.Number.{num_bytes, Bytes}
use Rattle.format.specs.Format.{Format, Index, nothing, each, counted}
use Rattle.format.specs.Value.{anything}
use Rattle.format.specs.Message.{first, unlimited}
use Rattle.format.proofs.Results.{ok_same, no_ok}
use Rattle.format.proofs.Laws.{Lawful, lawful_each, all_replicate}
use Rattle.format.proofs.Lengths.{lawful_counted}
use Rattle.scan.specs.Shown.{shown_next}
use Rattle.places.specs.Stands.{Stands}
use Rattle.places.specs.Entries.{entry}
use Rattle.places.proofs.Stands.{stands_read, stands_head, stands_tail}

module _ {A : Type 0} where
  -- what is there, and what is past the end
  pub entry_in : (l : List A) (i : ℕ) → i < length l → (a : A) × (entry l i ≡ ok a)
  entry_in [] i h = absurd (omega arith)
  entry_in (a ∷ l) zero h = (a, refl)
  entry_in (a ∷ l) (suc i) h = entry_in l i (omega arith)

  pub entry_past : (l : List A) (i : ℕ) → length l ≤ i → entry l i ≡ no PastEnd 0
  entry_past [] i h = refl
  entry_past (a ∷ l) zero h = absurd (omega arith)
  entry_past (a ∷ l) (suc i) h = entry_past l i (omega arith)

  pub entry_missing : (l : List A) (i : ℕ) {f : Fault} {p : ℕ} → entry l i ≡ no f p → ◌≡◌ {A = Res A} (no f p) (no PastEnd 0)
  entry_missing [] i e = sym e
  entry_missing (a ∷ l) zero e = absurd (no_ok (sym e))
  entry_missing (a ∷ l) (suc i) e = entry_missing l i e

  pub entry_below : (l : List A) (i : ℕ) {a : A} → entry l i ≡ ok a → i < length l
  entry_below [] i e = absurd (no_ok e)
  entry_below (a ∷ l) zero e = omega arith
  entry_below (a ∷ l) (suc i) e = let h = entry_below l i e in omega arith

  pub entry_same : (n i : ℕ) (a : A) → i < n → entry (replicate n a) i ≡ ok a
  entry_same zero i a h = absurd (omega arith)
  entry_same (suc n) zero a h = refl
  entry_same (suc n) (suc i) a h = entry_same n i a (omega arith)

  -- how many bytes some values of one format have
  unfoldable pub total : Format A → List A → ℕ
  total f [] = 0
  total f (a ∷ l) = length (f.bytes a) + total f l

  pub bytes_none : (at-index : ℕ → Index → Index) (k : ℕ) (fs : List (Format A)) → (each at-index k fs).bytes [] ≡ []
  unfolding each nothing
  bytes_none at-index k [] = refl
  bytes_none at-index k (f ∷ fs) = refl

  pub length-total : (at-index : ℕ → Index → Index) (k n : ℕ) (f : Format A) (l : List A) → length l ≤ n → length ((each at-index k (replicate n f)).bytes l) ≡ total f l
  unfolding each nothing total
  length-total at-index k n f [] h = ap length (bytes_none at-index k (replicate n f))
  length-total at-index k zero f (a ∷ l) h = absurd (omega arith)
  length-total at-index k (suc n) f (a ∷ l) h = rw (length-append, length-total at-index (k + 1) n f l (omega arith))

module _ {A : Type 0} {s : List ℕ} where
  moved_to : {f : Format A} {at p : ℕ} {a b : A} → at ≡ p → a ≡ b → Stands f s at a → Stands f s p b
  moved_to e h d = rw (← e, ← h) d

  -- the i-th value stands where those before it end: of one format, and of formats by numbers
  pub stands_entry : (at-index : ℕ → Index → Index) (k n : ℕ) (f : Format A) (l : List A) (i : ℕ) {at : ℕ} {a : A}
      → Stands (each at-index k (replicate n f)) s at l → entry l i ≡ ok a → Stands f s (at + total f (take i l)) a
  unfolding each nothing total
  stands_entry at-index k n f [] i d q = absurd (no_ok q)
  stands_entry at-index k zero f (b ∷ l) i d q = absurd (let z : ◌≡◌ {A = ℕ} 0 1 = cc d.good in omega arith)
  stands_entry at-index k (suc n) f (b ∷ l) zero d q = moved_to (omega arith) (ok_same q) (stands_head at-index k f (replicate n f) d)
  stands_entry at-index k (suc n) f (b ∷ l) (suc i) {at} d q =
      moved_to (add_assoc at (length (f.bytes b)) (total f (take i l))) refl (stands_entry at-index (k + 1) n f l i (stands_tail at-index k f (replicate n f) d) q)

  pub stands_cell : (at-index : ℕ → Index → Index) (k : ℕ) (g : ℕ → Format A) (xs : List ℕ) (l : List A) (i : ℕ) {at x : ℕ} {a : A}
      → Stands (each at-index k (map g xs)) s at l → entry xs i ≡ ok x → entry l i ≡ ok a → Stands (g x) s (at + length ((each at-index k (map g xs)).bytes (take i l))) a
  unfolding each nothing
  stands_cell at-index k g [] l i d p q = absurd (no_ok p)
  stands_cell at-index k g (y ∷ xs) [] i d p q = absurd (no_ok q)
  stands_cell at-index k g (y ∷ xs) (b ∷ l) zero {at} {x} d p q =
      let same : y ≡ x = ok_same p in
      rw (← same) (moved_to (omega arith) (ok_same q) (stands_head at-index k (g y) (map g xs) d))
  stands_cell at-index k g (y ∷ xs) (b ∷ l) (suc i) {at} d p q =
      moved_to (add_assoc at (length ((g y).bytes b)) _ ∙ ap (λ (n : ℕ). at + n) (sym (length-append ((g y).bytes b) _))) refl
      (stands_cell at-index (k + 1) g xs l i (stands_tail at-index k (g y) (map g xs) d) p q)

module _ {A : Type 0} (at-index : ℕ → Index → Index) (g : ℕ → Format A) where
  -- the first i of some values: their bytes are in front
  pub front_bytes : (k : ℕ) (xs : List ℕ) (l : List A) (i : ℕ) → (each at-index k (map g xs)).bytes (take i l) ≡ (each at-index k (map g (take i xs))).bytes (take i l)
  unfolding each nothing
  front_bytes k xs l zero = bytes_none at-index k (map g xs)
  front_bytes k [] l (suc i) = refl
  front_bytes k (x ∷ xs) [] (suc i) = refl
  front_bytes k (x ∷ xs) (a ∷ l) (suc i) = ap (λ (z : List ℕ). (g x).bytes a ++ z) (front_bytes (k + 1) xs l i)

  front : (k : ℕ) (xs : List ℕ) (l : List A) (i : ℕ) → (each at-index k (map g xs)).Good l
      → (each at-index k (map g (take i xs))).Good (take i l) × ((rest : List ℕ) × ((each at-index k (map g (take i xs))).bytes (take i l) ++ rest ≡ (each at-index k (map g xs)).bytes l))
  unfolding each nothing
  front k xs l zero h = (refl, (_, refl))
  front k [] l (suc i) h = (rw h, ([], refl))
  front k (x ∷ xs) [] (suc i) h = absurd h
  front k (x ∷ xs) (a ∷ l) (suc i) h =
      let w = front (k + 1) xs l i h.1 in
      ((h.0, w.0), (w.1.0, append_assoc ((g x).bytes a) _ _ ∙ ap (λ (z : List ℕ). (g x).bytes a ++ z) w.1.1))

  -- and they stand where all do
  pub stands_front : {s : List ℕ} {at : ℕ} (k : ℕ) (xs : List ℕ) (l : List A) (i : ℕ) → Stands (each at-index k (map g xs)) s at l → Stands (each at-index k (map g (take i xs))) s at (take i l)
  stands_front k xs l i d =
      let w = front k xs l i d.good in
      record { good = w.0; before = d.before; after = w.1.0 ++ d.after; whole = rw (← append_assoc ((each at-index k (map g (take i xs))).bytes (take i l)), w.1.1) d.whole; start = d.start }

module _ {A : Type 0} where
  short : (i : ℕ) (l : List A) → length (take i l) ≤ i
  short zero l = omega arith
  short (suc i) [] = omega arith
  short (suc i) (a ∷ l) = let h = short i l in omega arith

module _ {A : Type 0} (at-index : ℕ → Index → Index) (f : Format A) where
  -- the same of one format
  some_front : (k n i : ℕ) (l : List A) → i ≤ n → (each at-index k (replicate n f)).Good l
      → (each at-index k (replicate i f)).Good (take i l) × ((rest : List ℕ) × ((each at-index k (replicate i f)).bytes (take i l) ++ rest ≡ (each at-index k (replicate n f)).bytes l))
  unfolding each nothing
  some_front k n zero l h g = (refl, (_, refl))
  some_front k zero (suc i) l h g = absurd (omega arith)
  some_front k (suc n) (suc i) [] h g = absurd g
  some_front k (suc n) (suc i) (a ∷ l) h g =
      let w = some_front (k + 1) n i l (omega arith) g.1 in
      ((g.0, w.0), (w.1.0, append_assoc (f.bytes a) _ _ ∙ ap (λ (z : List ℕ). f.bytes a ++ z) w.1.1))

  pub some_lands : Lawful f → {s : List ℕ} {at : ℕ} (n i : ℕ) (l : List A) → i ≤ n → Stands (each at-index 0 (replicate n f)) s at l
      → (each at-index 0 (replicate i f)).read s at ≡ ok (take i l, at + total f (take i l))
  some_lands law {s} {at} n i l h d =
      let w = some_front 0 n i l h d.good in
      let there : Stands (each at-index 0 (replicate i f)) s at (take i l)
      = record { good = w.0; before = d.before; after = w.1.0 ++ d.after; whole = rw (← append_assoc ((each at-index 0 (replicate i f)).bytes (take i l)), w.1.1) d.whole; start = d.start } in
      let size : length ((each at-index 0 (replicate i f)).bytes (take i l)) ≡ total f (take i l) = length-total at-index 0 i f (take i l) (short i l) in
      stands_read (lawful_each at-index 0 (replicate i f) (all_replicate i law)) there ∙ ap (λ (x : ℕ). ok (take i l, at + x)) size

-- a format whose values have the bytes of a counted body
pub record Sized {A : Type 0} (f : Format A) : Type 0 where
  pub inner : A → List ℕ
  pub few : (a : A) → f.Good a → length (inner a) ≤ unlimited
  pub fits : (a : A) → f.Good a → Bytes (inner a)
  pub same : (a : A) → f.Good a → num_bytes 4 (length (inner a)) ++ inner a ≡ f.bytes a

abbrev pub sized : Format (Option (List ℕ))
sized = counted false unlimited anything 0 0

module _ {A : Type 0} {f : Format A} (z : Sized f) (at-index : ℕ → Index → Index) where
  abbrev bodies : List A → List (Option (List ℕ))
  bodies = map (λ a. some (z.inner a))

  jumped : (k j n i : ℕ) (l : List A) → i ≤ n → (each at-index k (replicate n f)).Good l
      → (each first j (replicate i sized)).Good (bodies (take i l))
      × (length ((each first j (replicate i sized)).bytes (bodies (take i l))) ≡ total f (take i l))
      × ((rest : List ℕ) × ((each first j (replicate i sized)).bytes (bodies (take i l)) ++ rest ≡ (each at-index k (replicate n f)).bytes l))
  unfolding each nothing total counted
  jumped k j n zero l h g = (refl, refl, (_, refl))
  jumped k j zero (suc i) l h g = absurd (omega arith)
  jumped k j (suc n) (suc i) [] h g = absurd g
  jumped k j (suc n) (suc i) (a ∷ l) h g =
      let w = jumped (k + 1) (j + 1) n i l (omega arith) g.1 in
      let same = z.same a g.0 in (
        ((z.few a g.0, z.fits a g.0, refl), w.0),
        rw (length-append, same, w.1),
        (w.2.0, rw (same, append_assoc, w.2.1)),
      )

  -- a jump over the first i values ends where they end
  pub jump_lands : {s : List ℕ} {at : ℕ} (n i : ℕ) (l : List A) → i ≤ n → Stands (each at-index 0 (replicate n f)) s at l
      → shown_next ((each first 0 (replicate i sized)).read s at) ≡ Ok (at + total f (take i l))
  jump_lands {s} {at} n i l h d =
      let w = jumped 0 0 n i l h d.good in
      let there : Stands (each first 0 (replicate i sized)) s at (bodies (take i l))
      = record { good = w.0; before = d.before; after = w.2.0 ++ d.after; whole = rw (← append_assoc ((each first 0 (replicate i sized)).bytes (bodies (take i l))), w.2.1) d.whole; start = d.start } in
      let law = lawful_each first 0 (replicate i sized) (all_replicate i (lawful_counted false unlimited anything 0 0 (lit< tt))) in
      ap shown_next (stands_read law there) ∙ ap (λ (x : ℕ). Ok (at + x)) w.1
