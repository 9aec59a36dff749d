-- What each question is answered after a tour, over any list of fields that tiles a room: the task has seen them all, and listed those that were asked for.
use Prim.Native.Nat.{ℕ, zero, suc, ◌+◌, ◌^◌, ◌≤◌, ◌<◌}
use mathlib.Core.Path.{◌≡◌, refl, sym, ◌∙◌, ap}
use mathlib.Core.List.{List, [], ◌∷◌, ◌++◌}
use lib.ListN.{length, take, drop}
use lib.Seq.{sets, sets-eq}
use native.Mathlib.Omega.{arith}
use native.Mathlib.Decide.{dec_lt}
use borrow.Author.Tests.{le-leb, lt-leb, lt-ltb, le-ltb}
use Rattle.format.specs.declared.Fault.TheVariants.{PastEnd}
use Rattle.format.specs.Result.{Res, ok, no as refused, bind}
use Rattle.format.specs.Number.{Bytes}
use Rattle.format.specs.Format.{Entry}
use Rattle.format.specs.Message.{read_message}
use Rattle.format.proofs.Results.{ok_same, bound}
use Rattle.format.proofs.Took.{Tiles}
use Rattle.tally.specs.declared.Task.{Task}
use Rattle.tally.specs.Task.{State, doing, list_task, six, visited}
use Rattle.tour.specs.Tour.{fields_of, task_after, out_after}
use Rattle.fields.specs.Questions.{nth, owner_of, window_of, window_count, window_out, sixes, over, entry_at}
use Rattle.fields.specs.Met.{count_met, field_met, owner_met, window_met}
use Rattle.fields.proofs.Seen.{listing, Windowed, windowed, tiles_asked, tiles_few, owned, owns, owner_past}
use Rattle.fields.proofs.Together.{tiled}

-- the fields that there are stand side by side, from a room's first byte to its last
pub record Tiled (x : Res (List Entry)) (size : ℕ) : Type 0 where
  pub tile : (es : List Entry) → x ≡ ok es → Tiles 0 es size
  pub small : size < 2 ^ 64

pub message_tiled : (kind : ℕ) (m : List ℕ) → Bytes m → length m < 2 ^ 64 → Tiled (fields_of kind m) (length m)
message_tiled kind m by small = record {
  tile = λ es e. let q = bound (read_message kind m) e in rw (ok_same q.2) at (tiled kind m by q.0 q.1);
  small = small;
}

few : (es : List Entry) (size : ℕ) → Tiled (ok es) size → length es < 2 ^ 64
few es size w = omega (arith, tiles_few 0 size es (w.tile es refl), w.small)

-- a window that is asked for, and the owner of a byte
seen : (es : List Entry) (size first : ℕ) (out : List ℕ) → Tiled (ok es) size → Windowed es first out (visited (listing first 0 out) es)
seen es size first out w = windowed es first out (few es size w) (tiles_asked 0 size es (w.tile es refl) (listing first 0 out) refl)

found : (es : List Entry) (size offset : ℕ) (out : List ℕ) → length out ≡ 6 → Tiled (ok es) size → visited (listing 0 offset out) es ≡ owned offset out (length es) (owner_of es offset)
found es size offset out long w =
    let small = few es size w in
    let none : 0 + length es ≡ length es = omega arith in
    owns offset out long es 0 size 0 (w.tile es refl) (omega arith) (omega arith) ∙ ap (λ (n : ℕ). owned offset out n (owner_of es offset)) none

-- an entry past the end of a list, and one that is in it
nth_past : (es : List Entry) (n : ℕ) → length es ≤ n → nth es n ≡ refused PastEnd 0
nth_past [] n h = refl
nth_past (e ∷ es) zero h = absurd (omega arith)
nth_past (e ∷ es) (suc n) h = nth_past es n (omega arith)

nth_there : (es : List Entry) (n : ℕ) → n < length es → (x : Entry) × (nth es n ≡ ok x) × (take 1 (drop n es) ≡ x ∷ [])
nth_there [] n h = absurd (omega arith)
nth_there (e ∷ es) zero h = (e, refl, refl)
nth_there (e ∷ es) (suc n) h = nth_there es n (omega arith)

nth_read : (es : List Entry) (n : ℕ) (out : List ℕ) {numbers : List ℕ} → length out ≡ 6 → n < length es → numbers ≡ over (sixes (window_of es n (length out))) out → nth es n ≡ ok (entry_at numbers)
unfolding sixes
nth_read es n out {numbers} long low e =
    let w = nth_there es n low in
    let x = w.0 in
    let one : window_of es n (length out) ≡ x ∷ [] = rw long w.2 in
    let same : entry_at numbers ≡ x = ap entry_at (e ∙ ap (λ (l : List Entry). over (sixes l) out) one) in
    rw same w.1

-- each question's answer, by the state after a tour
field_seen : (es : List Entry) (n : ℕ) (out : List ℕ) (st : State) → length out ≡ 6 → Windowed es n out st → field_met (ok st.task) n st.out ≡ nth es n
field_seen es n out st long w = by_test (dec_lt n (length es))
  where
    by_test : Dec (n < length es) → field_met (ok st.task) n st.out ≡ nth es n
    by_test (yes low) = rw (w.seen, lt-leb (length es) n low) (sym (nth_read es n out long low w.numbers))
    by_test (no high) = let past : length es ≤ n = omega arith in rw (w.seen, le-leb (length es) n past) (sym (nth_past es n past))

owner_seen : (es : List Entry) (offset n : ℕ) (out : List ℕ) (st : State) → length out ≡ 6 → st ≡ owned offset out n (owner_of es offset) → owner_met (ok st.task) st.out ≡ owner_of es offset
owner_seen es offset n out st long e = by_answer (owner_of es offset) refl e
  where
    by_answer : (a : Res (Entry × ℕ)) → owner_of es offset ≡ a → st ≡ owned offset out n a → owner_met (ok st.task) st.out ≡ owner_of es offset
    by_answer (ok w) is same =
        let front : sets out 0 (six w.0) ≡ six w.0 ++ drop 6 out = sets-eq (six w.0) out 0 (omega arith) in
        rw (same, is, front)
    by_answer (refused f p) is same = rw (same, is) (sym (owner_past es 0 offset f p is))

window_seen : (es : List Entry) (first : ℕ) (out : List ℕ) (st : State) → Windowed es first out st → window_met (ok st.task) first ≡ window_count es first (length out)
window_seen es first out st w = by_test (dec_lt first (length es))
  where
    by_test : Dec (first < length es) → window_met (ok st.task) first ≡ window_count es first (length out)
    by_test (yes low) = rw (w.seen, w.taken, lt-leb (length es) first low, lt-ltb first (length es) low)
    by_test (no high) = let past : length es ≤ first = omega arith in rw (w.seen, le-leb (length es) first past, le-ltb first (length es) past)

-- what is known of a tour over a list, from a state on: what it told, and what it left in the lent list
abbrev pub After : Res (List Entry) → State → Res Task → List ℕ → Type 0
After x st told written = (told ≡ task_after x st) × (written ≡ out_after x st)

-- and so by that
module _ {size : ℕ} {told : Res Task} {written : List ℕ} (out : List ℕ) where
  counts : (x : Res (List Entry)) → Tiled x size → After x (listing 0 0 out) told written → count_met told ≡ bind x (λ es. ok (length es))
  counts (ok es) w e = rw e.0 (ap ok (seen es size 0 out w).seen)
  counts (refused f p) w e = rw e.0

  fields : (x : Res (List Entry)) (n : ℕ) → length out ≡ 6 → Tiled x size → After x (listing n 0 out) told written → field_met told n written ≡ bind x (λ es. nth es n)
  fields (ok es) n long w e = rw (e.0, e.1) (field_seen es n out _ long (seen es size n out w))
  fields (refused f p) n long w e = rw e.0

  owners : (x : Res (List Entry)) (offset : ℕ) → length out ≡ 6 → Tiled x size → After x (listing 0 offset out) told written → owner_met told written ≡ bind x (λ es. owner_of es offset)
  owners (ok es) offset long w e = rw (e.0, e.1) (owner_seen es offset (length es) out _ long (found es size offset out long w))
  owners (refused f p) offset long w e = rw e.0

  windows : (x : Res (List Entry)) (first : ℕ) → Tiled x size → After x (listing first 0 out) told written
      → (window_met told first ≡ bind x (λ es. window_count es first (length out))) × (written ≡ window_out x first out)
  windows (ok es) first w e = let s = seen es size first out w in (rw e.0 (window_seen es first out _ s), e.1 ∙ s.numbers)
  windows (refused f p) first w e = (rw e.0, e.1)

  -- the same, where the task is known to be the one that lists
  pub count_told : {x : Res (List Entry)} {task : Task} → Tiled x size → task ≡ list_task 0 0 → After x (doing task out) told written → count_met told ≡ bind x (λ es. ok (length es))
  count_told {x} w asked e = counts x w (rw asked at e)

  pub field_told : {x : Res (List Entry)} {task : Task} {n : ℕ} → length out ≡ 6 → Tiled x size → task ≡ list_task n 0 → After x (doing task out) told written
      → field_met told n written ≡ bind x (λ es. nth es n)
  field_told {x} {n = n} long w asked e = fields x n long w (rw asked at e)

  pub owner_told : {x : Res (List Entry)} {task : Task} {offset : ℕ} → length out ≡ 6 → Tiled x size → task ≡ list_task 0 offset → After x (doing task out) told written
      → owner_met told written ≡ bind x (λ es. owner_of es offset)
  owner_told {x} {offset = offset} long w asked e = owners x offset long w (rw asked at e)

  pub window_told : {x : Res (List Entry)} {task : Task} {first : ℕ} → Tiled x size → task ≡ list_task first 0 → After x (doing task out) told written
      → (window_met told first ≡ bind x (λ es. window_count es first (length out))) × (written ≡ window_out x first out)
  window_told {x} {first = first} w asked e = windows x first w (rw asked at e)
