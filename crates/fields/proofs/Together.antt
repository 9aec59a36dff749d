-- What the answers say together: windows add up to the list, each byte has one owner, the owner is the field of its number, and no two answers tell the same.
use Rattle.format.specs.declared.Refusal.{Refusal}
use Rattle.std.specs.Prelude.{Result, Ok, Err}
use Prim.Native.Nat.{ℕ, zero, suc, ◌+◌, ◌-◌, ◌/◌, ◌≤◌, ◌<◌, ◌*◌}
use mathlib.Core.Path.{◌≡◌, refl, sym, ◌∙◌, ap}
use mathlib.Core.Bool.{Bool, true, false, ◌&&◌, and-false}
use mathlib.Core.List.{List, [], ◌∷◌, ◌++◌}
use mathlib.Core.Option.{some}
use lib.ListN.{length, take, drop, get_elem?, length-drop, length-take, drop_of_length-le}
use lib.Seq.{drop-drop, take-append_seam, drop-append_seam}
use lib.Dec.{leb, ltb}
use native.Mathlib.Omega.{arith}
use native.Mathlib.Decide.{dec_lt}
use borrow.Author.Tests.{le-leb, lt-ltb, le-ltb}
use Rattle.format.specs.declared.Fault.TheVariants.{PastEnd}
use Rattle.format.specs.Result.{Res, ok, no as refused, pick}
use Rattle.format.specs.Number.{Bytes}
use Rattle.format.specs.Format as format
use Rattle.format.specs.Format.{Entry}
use Rattle.format.specs.Message.{Message, read_message, message_fields}
use Rattle.format.proofs.Decides.{once, answer}
use Rattle.format.proofs.Results.{ok_same, no_ok}
use Rattle.format.proofs.Took.{Tiles}
use Rattle.format.proofs.Owner.{Owns, Owner, owner}
use Rattle.format.proofs.Demands.{accepted→encodes, fields_tile}
use Rattle.tally.specs.Task.{six}
use Rattle.fields.specs.declared.Entry as fields
use Rattle.fields.specs.Questions.{nth, owner_from, owner_of, window_of, window_out, sixes, over, entry_at}
use Rattle.fields.proofs.Listing.{length-sixes}
use Rattle.fields.specs.Told.{told_listed, told_owned}

-- the entries got by n windows, each from where the one before ended; the i-th has room for so many numbers
pub gathered : (ℕ → ℕ) → ℕ → ℕ → List Entry → ℕ → List Entry
gathered room i zero es first = []
gathered room i (suc n) es first = window_of es first (room i) ++ gathered room (i + 1) n es (first + length (window_of es first (room i)))

take_back : (n : ℕ) (es : List Entry) → take n es ++ drop (length (take n es)) es ≡ es
take_back zero es = refl
take_back (suc n) [] = refl
take_back (suc n) (e ∷ es) = ap (λ (l : List Entry). e ∷ l) (take_back n es)

take-some : (n : ℕ) (es : List Entry) → 0 < n → 0 < length es → 0 < length (take n es)
take-some n es a b = rw length-take (omega arith)

gather : (room : ℕ → ℕ) → ((i : ℕ) → 6 ≤ room i) → (n i : ℕ) (es : List Entry) (first : ℕ) → length es - first ≤ n → gathered room i n es first ≡ drop first es
unfolding gathered
gather room big zero i es first few = sym (drop_of_length-le es {i = first} (omega arith))
gather room big (suc n) i es first few =
    let d = drop first es in
    let w = take (room i / 6) d in
    let size : length d ≡ length es - first = length-drop first es in
    let wide : 0 < room i / 6 = omega (arith, big i) in
    let more : gathered room (i + 1) n es (first + length w) ≡ drop (first + length w) es =
    gather room big n (i + 1) es (first + length w) (by_test wide size (dec_lt 0 (length d))) in
    rw more (rw (← drop-drop (length w) first es) (take_back (room i / 6) d))
  where
    by_test : 0 < room i / 6 → length (drop first es) ≡ length es - first → Dec (0 < length (drop first es)) → length es - (first + length (take (room i / 6) (drop first es))) ≤ n
    by_test wide size (yes some_left) = let one = take-some (room i / 6) (drop first es) wide some_left in omega arith
    by_test wide size (no none_left) = omega arith

-- windows from 0 on, each with room for an entry, are the whole list after at most as many steps as it has entries
pub windows_all : (room : ℕ → ℕ) → ((i : ℕ) → 6 ≤ room i) → (es : List Entry) → gathered room 0 (length es) es 0 ≡ es
windows_all room big es = gather room big (length es) 0 es 0 (omega arith)

-- the numbers of a window stand at the front of the lent list, and what lies past them is unchanged
pub over_front : (new old : List ℕ) → take (length new) (over new old) ≡ new
over_front new old = take-append_seam new (drop (length new) old)

pub over_rest : (new old : List ℕ) → drop (length new) (over new old) ≡ drop (length new) old
over_rest new old = drop-append_seam new (drop (length new) old)

pub window_front : (es : List Entry) (first : ℕ) (out : List ℕ) → take (6 * length (window_of es first (length out))) (window_out (ok es) first out) ≡ sixes (window_of es first (length out))
window_front es first out = rw (← length-sixes (window_of es first (length out))) (over_front (sixes (window_of es first (length out))) out)

-- the numbers of two windows in a row are those of their entries in a row
pub sixes_both : (es fs : List Entry) → sixes (es ++ fs) ≡ sixes es ++ sixes fs
unfolding sixes
sixes_both [] fs = refl
sixes_both (e ∷ es) fs = rw (sixes_both es fs)

-- six numbers are one entry's only
pub six_once : (x y : Entry) → six x ≡ six y → x ≡ y
six_once x y e = ap entry_at e

-- the owner's entry is the field of its number
owner_nth : (n : ℕ) (es : List Entry) (k : ℕ) (x : Entry) (i : ℕ) → owner_from n es k ≡ ok (x, i) → (j : ℕ) × (i ≡ n + j) × (nth es j ≡ ok x)
unfolding owner_from
owner_nth n [] k x i e = absurd (no_ok e)
owner_nth n (y ∷ es) k x i e = by_test (leb y.at k && ltb k (y.at + y.size)) (owner_nth (n + 1) es k x i) e
  where
    by_test : (t : Bool) → (owner_from (n + 1) es k ≡ ok (x, i) → (j : ℕ) × (i ≡ n + 1 + j) × (nth es j ≡ ok x))
        → pick {A = Res (Entry × ℕ)} t (ok (y, n)) (owner_from (n + 1) es k) ≡ ok (x, i) → (j : ℕ) × (i ≡ n + j) × (nth (y ∷ es) j ≡ ok x)
    by_test true more h =
        let same = ok_same h in
        let number : n ≡ i = ap (λ (p : Entry × ℕ). p.1) same in
        (0, omega arith, ap ok (ap (λ (p : Entry × ℕ). p.0) same))
    by_test false more h = let w = more h in let number = w.1 in (suc w.0, omega arith, w.2)

pub owner_field : (es : List Entry) (k : ℕ) (x : Entry) (i : ℕ) → owner_of es k ≡ ok (x, i) → nth es i ≡ ok x
owner_field es k x i e = let w = owner_nth 0 es k x i e in let same : i ≡ w.0 = w.1 ∙ omega arith in rw same w.2

-- the n-th entry, as the list has it
nth_element : (es : List Entry) (n : ℕ) (x : Entry) → nth es n ≡ ok x → get_elem? es n ≡ some x
nth_element [] n x e = absurd (no_ok e)
nth_element (y ∷ es) zero x e = ap some (ok_same e)
nth_element (y ∷ es) (suc n) x e = nth_element es n x e

-- a byte before the end of entries side by side has an owner that covers it, and one past the end has none
owner_found : (n : ℕ) (es : List Entry) (o end k : ℕ) → Tiles o es end → o ≤ k → k < end → (w : Entry × ℕ) × (owner_from n es k ≡ ok w) × (w.0.at ≤ k) × (k < w.0.at + w.0.size)
unfolding Tiles owner_from
owner_found n [] o end k t low high = absurd (omega arith)
owner_found n (e ∷ es) o end k t low high = by_test (λ h. owner_found (n + 1) es (o + e.size) end k t.2 h high) (dec_lt k (o + e.size))
  where
    by_test : (o + e.size ≤ k → (w : Entry × ℕ) × (owner_from (n + 1) es k ≡ ok w) × (w.0.at ≤ k) × (k < w.0.at + w.0.size))
        → Dec (k < o + e.size) → (w : Entry × ℕ) × (pick (leb e.at k && ltb k (e.at + e.size)) (ok (e, n)) (owner_from (n + 1) es k) ≡ ok w) × (w.0.at ≤ k) × (k < w.0.at + w.0.size)
    by_test more (yes h) =
        let first = t.0 in
        let a : e.at ≤ k = omega arith in
        let b : k < e.at + e.size = omega arith in
        ((e, n), rw (le-leb e.at k a, lt-ltb k (e.at + e.size) b), a, b)
    by_test more (no h) =
        let first = t.0 in
        let other : leb e.at k && ltb k (e.at + e.size) ≡ false = rw (le-ltb k (e.at + e.size) (omega arith)) (simp and-false) in
        let w = more (omega arith) in
        (w.0, rw other w.1, w.2, w.3)

owner_none : (n : ℕ) (es : List Entry) (o end k : ℕ) → Tiles o es end → end ≤ k → owner_from n es k ≡ refused PastEnd 0
unfolding Tiles owner_from
owner_none n [] o end k t high = refl
owner_none n (e ∷ es) o end k t high =
    let first = t.0 in
    let last = tiles_end es (o + e.size) end t.2 in
    let other : leb e.at k && ltb k (e.at + e.size) ≡ false = rw (le-ltb k (e.at + e.size) (omega arith)) (simp and-false) in
    rw other (owner_none (n + 1) es (o + e.size) end k t.2 high)
  where
    tiles_end : (es : List Entry) (o end : ℕ) → Tiles o es end → o ≤ end
    tiles_end [] o end t = omega arith
    tiles_end (e ∷ es) o end t = let more = tiles_end es (o + e.size) end t.2 in omega arith

-- each byte of a room that is tiled has exactly one owner, and that is the one answered
module _ (es : List Entry) (size : ℕ) (tile : Tiles 0 es size) where
  pub tile_answers : (k : ℕ) → k < size → (x : Entry) × (i : ℕ) × (owner_of es k ≡ ok (x, i)) × Owns es k i × ((j : ℕ) → Owns es k j → j ≡ i)
  tile_answers k low =
      let w = owner_found 0 es 0 size k tile (omega arith) low in
      let x = w.0.0 in
      let i = w.0.1 in
      let stands : get_elem? es i ≡ some x = nth_element es i x (owner_field es k x i w.1) in
      let mine : Owns es k i = record { entry = x; stands = stands; starts = w.2; ends = w.3 } in
      let one : Owner es k = owner es 0 size k tile (omega arith) low in
      (x, i, w.1, mine, (λ j h. one.2 j h ∙ sym (one.2 i mine)))

  pub tile_ends : (k : ℕ) → size ≤ k → owner_of es k ≡ refused PastEnd 0
  tile_ends k high = owner_none 0 es 0 size k tile high

-- so it is in an accepted message
module _ (kind : ℕ) (m : List ℕ) (by : Bytes m) (r : Message) (accepted : read_message kind m ≡ ok r) where
  abbrev pub all : List Entry
  all = message_fields kind r

  pub tiled : Tiles 0 all (length m)
  tiled = let w = accepted→encodes kind m by r accepted in rw w.1 at (fields_tile kind r w.0)

  pub owner_answers : (k : ℕ) → k < length m → (x : Entry) × (i : ℕ) × (owner_of all k ≡ ok (x, i)) × Owns all k i × ((j : ℕ) → Owns all k j → j ≡ i)
  owner_answers = tile_answers all (length m) tiled

  pub owner_ends : (k : ℕ) → length m ≤ k → owner_of all k ≡ refused PastEnd 0
  owner_ends = tile_ends all (length m) tiled

-- no two answers tell the same, so each contract decides its answer
abbrev entry : format.Entry → fields.Entry
entry e = record { offset = e.at; size = e.size; field = e.field; i = e.index.i; j = e.index.j; k = e.index.k }

pub listed_once : (a b : Result fields.Entry Refusal) → told_listed a ≡ told_listed b → a ≡ b
listed_once = once told_listed (answer (λ x. Ok (entry x)) Err) (elim [ Ok x ↦ refl | Err r ↦ refl ])

pub owned_once : (a b : Result (fields.Entry × ℕ) Refusal) → told_owned a ≡ told_owned b → a ≡ b
owned_once = once told_owned (answer (λ w. Ok (entry w.0, w.1)) Err) (elim [ Ok (x, n) ↦ refl | Err r ↦ refl ])
