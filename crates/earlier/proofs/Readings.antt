-- A reply is read as before, unless it has a column count that was too large: each way to make a format keeps that, and so do the formats on the way from the count to the message.
use Prim.Native.Nat.{ℕ, zero, suc, ◌+◌, ◌<◌, ◌≤◌}
use mathlib.Core.Path.{◌≡◌, refl, ap}
use mathlib.Core.Bool.{Bool, true, false, ◌||◌}
use mathlib.Core.List.{List}
use lib.ListN.{length, take, replicate, length-take}
use lib.Seq.{get_or-take}
use lib.Dec.{leb, ltb, eqb}
use native.Mathlib.Omega.{arith}
use borrow.Author.Tests.{leb-true, leb-false}
use Rattle.format.specs.declared.Fault.TheVariants.{Negative, Limit, Short, Extra}
use Rattle.format.specs.Result.{Res, ok, no, bind, pick}
use Rattle.format.specs.Number.{num_at, half}
use Rattle.format.specs.Format.{Format, Index, number, ruled, room, into, both, each}
use Rattle.format.specs.Message.{count, list, metadata, table, response, content_of, message, read_message, response_layout, most_message, filled, most_columns}
use Rattle.earlier.specs.Before.{most_before, table_before, response_before, read_before}
use Rattle.earlier.specs.Kept.{Kept, same, wider}

-- a number in a room is one in what the room is cut from
num_at_take : (k e : ℕ) (s : List ℕ) (p : ℕ) → p + k ≤ length (take e s) → num_at k (take e s) p ≡ num_at k s p
unfolding num_at
num_at_take zero e s p h = refl
num_at_take (suc k) e s p h =
    let below : p < e = omega (arith, length-take e s) in
    rw (get_or-take e s p 0 below, num_at_take k e s (p + 1) (omega arith))

-- ---- answers
module _ {A : Type 0} where
  kept_pick : {s : List ℕ} {a b c d : Res A} (t : Bool) → Kept s a b → Kept s c d → Kept s (pick t a c) (pick t b d)
  kept_pick true h k = h
  kept_pick false h k = k

  kept_room : (e : ℕ) (s : List ℕ) {x y : Res A} → Kept (take e s) x y → Kept s x y
  kept_room e s (same h) = same h
  kept_room e s (wider p w h) =
      let here = num_at_take 2 e s p w.fits in
      wider p (record { fits = omega (arith, length-take e s, w.fits); above = rw (← here) w.above; below = rw (← here) w.below }) h

module _ {A B : Type 0} where
  kept_bind : {s : List ℕ} {x y : Res A} {k l : A → Res B} → Kept s x y → ((a : A) → Kept s (k a) (l a)) → Kept s (bind x k) (bind y l)
  kept_bind {s} {x} {y} {k} {l} (same h) each-kept = go x y h
    where
      go : (x y : Res A) → x ≡ y → Kept s (bind x k) (bind y l)
      go x y h = rw (← h) (by_result x)
        where
          by_result : (x : Res A) → Kept s (bind x k) (bind x l)
          by_result (ok a) = each-kept a
          by_result (no f p) = same refl
  kept_bind {k = k} (wider p w h) each-kept = wider p w (ap (λ (z : Res A). bind z k) h)

-- ---- formats
module _ {A : Type 0} where
  pub record Keeps (f g : Format A) : Type 0 where
    pub kept : (s : List ℕ) (at : ℕ) → Kept s (f.read s at) (g.read s at)

  keeps_same : (f : Format A) → Keeps f f
  keeps_same f = record { kept = λ s at. same refl }

  keeps_room : (most field : ℕ) {f g : Format A} → Keeps f g → Keeps (room most field f) (room most field g)
  unfolding room
  keeps_room most field {f} {g} h = record {
    kept = λ s at.
        kept_bind {x = (number 4 field).read s at} (same refl) (λ p.
        kept_pick (leb (half 4) p.0) (same refl)
        (kept_pick (ltb most p.0) (same refl)
        (kept_pick (ltb (length s) (at + 4 + p.0)) (same refl)
        (kept_bind (kept_room (at + 4 + p.0) s (h.kept (take (at + 4 + p.0) s) (at + 4))) (λ q. same refl)))));
  }

module _ {A : Type 0} where
  keeps_each : (at-index : ℕ → Index → Index) (k n : ℕ) {f g : Format A} → Keeps f g → Keeps (each at-index k (replicate n f)) (each at-index k (replicate n g))
  unfolding each
  keeps_each at-index k zero h = keeps_same _
  keeps_each at-index k (suc n) {f} {g} h = record {
    kept = λ s at. kept_bind (h.kept s at) (λ p. kept_bind ((keeps_each at-index (k + 1) n h).kept s p.1) (λ q. same refl));
  }

module _ {A B : Type 0} where
  keeps_into : (to : A → B) (from : B → A) {f g : Format A} → Keeps f g → Keeps (into to from f) (into to from g)
  unfolding into
  keeps_into to from h = record { kept = λ s at. kept_bind (h.kept s at) (λ p. same refl) }

  keeps_both : {f g : Format A} {h k : A → Format B} → Keeps f g → ((a : A) → Keeps (h a) (k a)) → Keeps (both f h) (both g k)
  unfolding both
  keeps_both x y = record { kept = λ s at. kept_bind (x.kept s at) (λ p. kept_bind ((y p.0).kept s p.1) (λ q. same refl)) }

module _ {A : Type 0} where
  keeps_list : (k most field : ℕ) (at-index : ℕ → Index → Index) {f g : Format A} → Keeps f g → Keeps (list k most field at-index f) (list k most field at-index g)
  unfolding list
  keeps_list k most field at-index h = keeps_into _ _ (keeps_both (keeps_same _) (λ n. keeps_each at-index 0 n h))

-- the count itself: what isn't read as before is too large for then and not for now
keeps_count : Keeps (count 2 most_before 44) (count 2 most_columns 44)
unfolding ruled number
keeps_count = record { kept = λ s at. by_room s at (leb (at + 2) (length s)) refl }
  where
    by_limit : (s : List ℕ) (at : ℕ) (a b : Bool) → at + 2 ≤ length s → leb (num_at 2 s at) most_before ≡ a → leb (num_at 2 s at) most_columns ≡ b
        → Kept {A = ℕ × ℕ} s (pick a (ok (num_at 2 s at, at + 2)) (no Limit at)) (pick b (ok (num_at 2 s at, at + 2)) (no Limit at))
    by_limit s at true true fits x y = same refl
    by_limit s at true false fits x y = absurd (omega (arith, leb-true (num_at 2 s at) most_before x, leb-false (num_at 2 s at) most_columns y))
    by_limit s at false true fits x y = wider at (record { fits = fits; above = leb-false (num_at 2 s at) most_before x; below = leb-true (num_at 2 s at) most_columns y }) refl
    by_limit s at false false fits x y = same refl

    by_sign : (s : List ℕ) (at : ℕ) (t : Bool) → at + 2 ≤ length s
        → Kept {A = ℕ × ℕ} s (bind (pick t (ok (num_at 2 s at, at + 2)) (no Negative at)) (λ p. pick (leb p.0 most_before) (ok p) (no Limit at)))
        (bind (pick t (ok (num_at 2 s at, at + 2)) (no Negative at)) (λ p. pick (leb p.0 most_columns) (ok p) (no Limit at)))
    by_sign s at true fits = by_limit s at (leb (num_at 2 s at) most_before) (leb (num_at 2 s at) most_columns) fits refl refl
    by_sign s at false fits = same refl

    by_room : (s : List ℕ) (at : ℕ) (t : Bool) → leb (at + 2) (length s) ≡ t
        → Kept {A = ℕ × ℕ} s (bind (bind (pick t (ok (num_at 2 s at, at + 2)) (no Short at)) (λ p. pick (ltb p.0 (half 2)) (ok p) (no Negative at))) (λ p. pick (leb p.0 most_before) (ok p) (no Limit at)))
        (bind (bind (pick t (ok (num_at 2 s at, at + 2)) (no Short at)) (λ p. pick (ltb p.0 (half 2)) (ok p) (no Negative at))) (λ p. pick (leb p.0 most_columns) (ok p) (no Limit at)))
    by_room s at true e = by_sign s at (ltb (num_at 2 s at) (half 2)) (leb-true (at + 2) (length s) e)
    by_room s at false e = same refl

keeps_table : Keeps table_before table
unfolding table metadata
keeps_table = keeps_room _ 41 (keeps_into _ _ (keeps_both (keeps_room _ 42 (keeps_into _ _ (keeps_both (keeps_same _) (λ u. keeps_both keeps_count (λ n. keeps_same _))))) (λ m. keeps_same _)))

keeps_message : (timed : Bool) → Keeps (response_before timed) (message (response_layout timed))
unfolding message content_of response
keeps_message true = keeps_into _ _ (keeps_both (keeps_same _) (λ v. keeps_into _ _ (keeps_into _ _ (keeps_both (keeps_same _) (λ h. keeps_list _ _ 40 _ keeps_table)))))
keeps_message false = keeps_into _ _ (keeps_both (keeps_same _) (λ v. keeps_into _ _ (keeps_into _ _ (keeps_both (keeps_same _) (λ h. keeps_list _ _ 40 _ keeps_table)))))

-- a reply is answered as before, but for such a count, which was 3 at its place
pub read_as_before : (timed : Bool) (m : List ℕ) → Kept m (read_before timed m) (read_message (response_layout timed) m)
read_as_before timed m = go timed
  where
    whole : (timed : Bool) → Kept m (read_before timed m) (bind ((number 4 1).read m 0) (λ p.
        pick (eqb p.0 0 || leb (half 4) p.0) (no Negative 0)
        (pick (ltb most_message p.0) (no Limit 0)
        (pick (ltb (length m) (4 + p.0)) (no Short 0)
        (pick (ltb (4 + p.0) (length m)) (no Extra (4 + p.0))
        (bind ((message (response_layout timed)).read m 4) (filled m)))))))
    whole timed =
        kept_bind {x = (number 4 1).read m 0} (same refl) (λ p.
        kept_pick (eqb p.0 0 || leb (half 4) p.0) (same refl)
        (kept_pick (ltb most_message p.0) (same refl)
        (kept_pick (ltb (length m) (4 + p.0)) (same refl)
        (kept_pick (ltb (4 + p.0) (length m)) (same refl)
        (kept_bind ((keeps_message timed).kept m 4) (λ q. same refl))))))

    go : (timed : Bool) → Kept m (read_before timed m) (read_message (response_layout timed) m)
    go true = whole true
    go false = whole false
