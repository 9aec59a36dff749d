-- A run of fields that a task doesn't want is only counted: so a count that asks no task stands for the walk over them.
use Rattle.std.proofs.Common.{◌≡◌, ℕ, zero, suc, ◌+◌, ◌/◌, ◌%◌, ◌^◌, ◌≤◌, Bool, true, false, ◌&&◌, List, [], ◌∷◌, length, sym, refl, ap, ◌∙◌, inl, inr, ⊎_elim, suc-add, zero-add, arith, le-ltb}
use native.Mathlib.Nat.{mod-le, mod-add-mod}
use borrow.Author.Tests.{lt-leb}
use Rattle.format.specs.Result.{ok}
use Rattle.format.specs.Number.{Bytes}
use Rattle.format.specs.Format.{Format, Index, Entry}
use Rattle.format.proofs.Laws.{Lawful}
use Rattle.format.proofs.Took.{Tiles}
use Rattle.tally.specs.declared.Task.{Task}
use Rattle.tally.specs.Task.{doing, wanted, acted, seen_to, Calm, visited}
use Rattle.tally.specs.Walks.{state_of}
use Rattle.tally.proofs.Tables.{Ended}
use Rattle.tally.specs.declared.Tally.{Tally}
use Rattle.tally.specs.Tallies.{counting, Tallied, RoomEnd}

-- how many fields are seen after n more
unfoldable pub seen_after : ℕ → ℕ → ℕ
seen_after seen zero = seen
seen_after seen (suc n) = seen_after ((seen + 1) % 2 ^ 64) n

pub seen_both : (seen m n : ℕ) → seen_after seen (m + n) ≡ seen_after (seen_after seen m) n
unfolding seen_after
seen_both seen zero n = rw zero-add
seen_both seen (suc m) n = rw suc-add (seen_both ((seen + 1) % 2 ^ 64) m n)

pub seen_most : (seen n : ℕ) → seen_after seen n ≤ seen + n
unfolding seen_after
seen_most seen zero = omega arith
seen_most seen (suc n) = omega (arith, seen_most ((seen + 1) % 2 ^ 64) n, mod-le (seen + 1) (2 ^ 64))

pub seen_is : (seen n : ℕ) → seen_after seen (suc n) ≡ (seen + suc n) % 2 ^ 64
unfolding seen_after
seen_is seen zero = refl
seen_is seen (suc n) =
    let one : seen + 1 + suc n ≡ seen + suc (suc n) = omega arith in
    seen_is ((seen + 1) % 2 ^ 64) n ∙ mod-add-mod (seen + 1) (2 ^ 64) (suc n) ∙ ap (λ (m : ℕ). m % 2 ^ 64) one

-- fields that tile a room: none ends past it, and there are no more of them than bytes
pub tiles_few : (es : List Entry) (o end : ℕ) → Tiles o es end → o + length es ≤ end
unfolding Tiles
tiles_few [] o end t = omega arith
tiles_few (e ∷ es) o end t = omega (arith, tiles_few es (o + e.size) end t.2, t.1)

and_false : (a : Bool) → a && false ≡ false
and_false true = refl
and_false false = refl

module _ (task : Task) (room : ℕ) where
  pub calm_fewer : {end e n m : ℕ} → Calm task room end n → e ≤ end → m ≤ n → Calm task room e m
  calm_fewer c h k = ⊎_elim (λ full. inl full) (λ more. ⊎_elim (λ early. inr (inl (omega arith))) (λ low. inr (inr (omega arith))) more) c

  unwanted : {end e : ℕ} (n : ℕ) → Calm task room end (suc n) → e ≤ end → wanted task e room ≡ false
  unwanted {end} {e} n c h =
      ⊎_elim (λ full. rw (le-ltb task.taken (room / 6) full, and_false, and_false))
      (λ more. ⊎_elim (λ early. rw (le-ltb task.offset e (omega arith), and_false)) (λ low. rw (lt-leb task.first task.seen (omega arith))) more) c

  pub calm_next : {end : ℕ} (m n : ℕ) → Calm task room end (m + n) → Calm (seen_to task (seen_after task.seen m)) room end n
  calm_next {end} m n c =
      ⊎_elim (λ full. inl full) (λ more. ⊎_elim (λ early. inr (inl early)) (λ low. inr (inr (omega (arith, seen_most task.seen m)))) more) c

acted_unwanted : (task : Task) (out : List ℕ) (e : Entry) → wanted task (e.at + e.size) (length out) ≡ false
    → acted (doing task out) e ≡ doing (seen_to task ((task.seen + 1) % 2 ^ 64)) out
unfolding acted
acted_unwanted task out e none = rw none

-- a count's next field
pub count_one : (tally : Tally) (e : Entry) {n : ℕ} → n ≡ (tally.seen + 1) % 2 ^ 64 → state_of (counting (record { at = tally.at; seen = n })) [] ≡ acted (state_of (counting tally) []) e
count_one tally e told =
    let far : e.at + e.size ≤ e.at + e.size = omega arith in
    rw told (sym (acted_unwanted (counting tally).task [] e (unwanted (counting tally).task 0 0 (inl (omega arith)) far)))

-- what a task that wants none of some fields makes of them
pub visited_calm : (es : List Entry) (o end : ℕ) (task : Task) (out : List ℕ) → Tiles o es end → Calm task (length out) end (length es)
    → visited (doing task out) es ≡ doing (seen_to task (seen_after task.seen (length es))) out
unfolding visited seen_after Tiles
visited_calm [] o end task out t c = refl
visited_calm (e ∷ es) o end task out t c =
    let here = t.0 in
    let far : e.at + e.size ≤ end = omega (arith, tiles_few es (o + e.size) end t.2) in
    let later : Calm (seen_to task ((task.seen + 1) % 2 ^ 64)) (length out) end (length es) = calm_next task (length out) 1 (length es) (calm_fewer task (length out) c (omega arith) (omega arith)) in
    rw (acted_unwanted task out e (unwanted task (length out) (length es) c far))
    (visited_calm es (o + e.size) end (seen_to task ((task.seen + 1) % 2 ^ 64)) out t.2 later)

-- the fields that were read tile what was read
pub fields_tile : {A : Type 0} {f : Format A} → Lawful f → (s : List ℕ) → Bytes s → (ix : Index) (at : ℕ) (a : A) (next : ℕ) → f.read s at ≡ ok (a, next) → Tiles at (f.fields ix at a) next
fields_tile {A} {f} l s by ix at a next e = let w = l.sound s by at a next e in rw w.1.far (l.tiles ix at a w.0)

-- a count of a room's fields, at the room's end by its length
pub tallied_ended : {A : Type 0} {f : Format A} {s : List ℕ} {from last after : Tally} {end : ℕ} → Tallied f s from last → RoomEnd s from.at end
    → ((a : A) (next : ℕ) → f.read s from.at ≡ ok (a, next) → Ended s from.at next) → after ≡ record { at = end; seen = last.seen } → Tallied f s from after
tallied_ended {A} {f} {s} {from} {last} {after} {end} counted far ends is = record {
  walks = λ ix. rw is (record {
    goes = λ a next e.
        let d = ends a next e in
        let w = (counted.walks ix).goes a next e in
        (far d.n (from.at + 4) d.length-read d.fit ∙ sym d.end, w.1);
  });
}
