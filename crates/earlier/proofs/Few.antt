-- A table that was read had at most 64 columns: what holds of every value that a format reads, from the column count to the message.
use Prim.Native.Nat.{ℕ, zero, suc, ◌+◌, ◌≤◌}
use mathlib.Core.Path.{◌≡◌, refl, ap}
use mathlib.Core.Bool.{Bool, ◌||◌}
use mathlib.Core.List.{List, [], ◌∷◌}
use lib.ListN.{length, take, replicate}
use lib.Dec.{leb, ltb, eqb}
use borrow.Author.Tests.{leb-true}
use Rattle.format.specs.Result.{ok, no, bind, pick}
use Rattle.format.specs.Number.{half}
use Rattle.format.specs.Format.{Format, Index, number, nothing, ruled, room, into, both, each}
use Rattle.format.specs.Message.{count, list, first, third, unlimited, most_items, Table, Message, most_message}
use Rattle.format.proofs.Results.{ok_same, no_ok, passed, spared, bound}
use Rattle.places.specs.Places.{tables_of}
use Rattle.places.specs.Entries.{entry}
use Rattle.earlier.specs.Before.{most_before, table_before, response_before, read_before}

module _ {A : Type 0} where
  -- every value that a format reads is such
  record Reads (P : A → Type 0) (f : Format A) : Type 0 where
    pub is : (s : List ℕ) (at : ℕ) (w : A × ℕ) → f.read s at ≡ ok w → P w.0

  abbrev All : (A → Type 0) → List A → Type 0
  All P [] = Unit
  All P (a ∷ l) = P a × All P l

  all_entry : (P : A → Type 0) (l : List A) (i : ℕ) (a : A) → All P l → entry l i ≡ ok a → P a
  all_entry P [] i a h e = absurd (no_ok e)
  all_entry P (b ∷ l) zero a h e = rw (← ok_same e) h.0
  all_entry P (b ∷ l) (suc i) a h e = all_entry P l i a h.1 e

  reads_any : (f : Format A) → Reads (λ a. Unit {0}) f
  reads_any f = record { is = λ s at w e. tt }

  reads_room : {P : A → Type 0} (most field : ℕ) {f : Format A} → Reads P f → Reads P (room most field f)
  unfolding room
  reads_room {P} most field {f} r = record {
    is = λ s at w e.
        let n = bound ((number 4 field).read s at) e in
        let end = at + 4 + n.0.0 in
        let a = spared (leb (half 4) n.0.0) _ _ n.2 in
        let b = spared (ltb most n.0.0) _ _ a.1 in
        let c = spared (ltb (length s) end) _ _ b.1 in
        let q = bound (f.read (take end s) (at + 4)) c.1 in
        let d = passed (eqb q.0.1 end) _ _ q.2 in
        rw (← ok_same d.1) (r.is (take end s) (at + 4) q.0 q.1);
  }

module _ {A : Type 0} where
  -- so many values are read, each of them such
  reads_each : {P : A → Type 0} (at-index : ℕ → Index → Index) (k n : ℕ) {f : Format A} → Reads P f → Reads (λ l. (length l ≡ n) × All P l) (each at-index k (replicate n f))
  unfolding each nothing
  reads_each {P} at-index k zero r = record { is = λ s at w e. rw (← ok_same e) (refl, tt) }
  reads_each {P} at-index k (suc n) {f} r = record {
    is = λ s at w e.
        let a = bound (f.read s at) e in
        let b = bound ((each at-index (k + 1) (replicate n f)).read s a.0.1) a.2 in
        let others = (reads_each at-index (k + 1) n r).is s a.0.1 b.0 b.1 in
        rw (← ok_same b.2) (ap suc others.0, (r.is s at a.0 a.1, others.1));
  }

module _ {A B : Type 0} where
  reads_into : {P : B → Type 0} (to : A → B) (from : B → A) {f : Format A} → Reads (λ a. P (to a)) f → Reads P (into to from f)
  unfolding into
  reads_into to from {f} r = record { is = λ s at w e. let a = bound (f.read s at) e in rw (← ok_same a.2) (r.is s at a.0 a.1) }

  reads_both : {P : A → Type 0} {Q : A × B → Type 0} {f : Format A} {g : A → Format B} → Reads P f → ((a : A) → P a → Reads (λ b. Q (a, b)) (g a)) → Reads Q (both f g)
  unfolding both
  reads_both {P} {Q} {f} {g} r q = record {
    is = λ s at w e.
        let a = bound (f.read s at) e in
        let b = bound ((g a.0.0).read s a.0.1) a.2 in
        rw (← ok_same b.2) ((q a.0.0 (r.is s at a.0 a.1)).is s a.0.1 b.0 b.1);
  }

reads_count : (k most field : ℕ) → Reads (λ n. n ≤ most) (count k most field)
unfolding ruled
reads_count k most field = record {
  is = λ s at w e.
      let a = bound (bind ((number k field).read s at) (λ p. pick (ltb p.0 (half k)) (ok p) (no _ at))) e in
      let b = passed (leb a.0.0 most) _ _ a.2 in
      rw (← ok_same b.1) (leb-true _ most b.0);
}

module _ {A : Type 0} where
  reads_list : {P : A → Type 0} (k most field : ℕ) (at-index : ℕ → Index → Index) {f : Format A} → Reads P f → Reads (All P) (list k most field at-index f)
  unfolding list
  reads_list k most field at-index r = reads_into _ _ (reads_both (reads_any _) (λ n h. record { is = λ s at w e. ((reads_each at-index 0 n r).is s at w e).1 }))

-- from the count to the message
abbrev few : Table → Type 0
few b = length b.metadata.types ≤ most_before

reads_table : Reads few table_before
reads_table =
    reads_room unlimited 41 (reads_into _ _ (reads_both
    (reads_room unlimited 42 (reads_into _ _ (reads_both (reads_any _) (λ u h. reads_both (reads_count 2 most_before 44) (λ n most. reads_both (reads_each third 0 n (reads_any _)) (λ t many. record { is = λ s at w e. rw many.0 most }))))))
    (λ d h. record { is = λ s at w e. h })))

reads_response : (timed : Bool) → Reads (λ r. All few (tables_of r)) (response_before timed)
reads_response timed = reads_into _ _ (reads_both (reads_any _) (λ v h. reads_into _ _ (reads_into _ _ (reads_both (reads_any _) (λ h x. reads_list 2 most_items 40 first reads_table)))))

pub few_columns : (timed : Bool) (m : List ℕ) (r : Message) → read_before timed m ≡ ok r → (t : ℕ) (b : Table) → entry (tables_of r) t ≡ ok b → few b
few_columns timed m r e t b there =
    let n = bound ((number 4 1).read m 0) e in
    let size = n.0.0 in
    let x = spared (eqb size 0 || leb (half 4) size) _ _ n.2 in
    let y = spared (ltb most_message size) _ _ x.1 in
    let z = spared (ltb (length m) (4 + size)) _ _ y.1 in
    let u = spared (ltb (4 + size) (length m)) _ _ z.1 in
    let q = bound ((response_before timed).read m 4) u.1 in
    let v = passed (eqb q.0.1 (length m)) _ _ q.2 in
    all_entry few (tables_of r) t b (rw (← ok_same v.1) ((reads_response timed).is m 4 q.0 q.1)) there
