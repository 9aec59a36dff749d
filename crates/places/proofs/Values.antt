-- A value that a message has by number (specs/Entries.antt) stands where it is said to.
use Prim.Native.Nat.{ℕ, ◌+◌, ◌≤◌, ◌<◌}
use mathlib.Core.Path.{◌≡◌, refl, sym, ◌∙◌, ap}
use mathlib.Core.Bool.{Bool, true, false}
use mathlib.Core.List.{List, ◌++◌, map, append_assoc}
use mathlib.Core.Option.{some}
use lib.ListN.{length, take, drop, length-append, length-map}
use lib.Seq.{take_at, drop_at}
use lib.Dec.{eqb}
use native.Mathlib.Omega.{arith}
use borrow.Author.Tests.{eqb-true, eqb-false}
use Rattle.format.specs.Result.{ok}
use Rattle.format.specs.Number.{Bytes, num_bytes}
use Rattle.format.specs.Format.{into, counted}
use Rattle.format.specs.Value.{Value, fixed, body, value, is_counted}
use Rattle.format.specs.Message.{second, third, row, Table, table, Items, Argument, one_of, Param, param, Message, response_layout, read_message}
use Rattle.format.proofs.Results.{ok_same, no_ok, bound}
use Rattle.format.proofs.Numbers.{length-num_bytes}
use Rattle.format.proofs.Laws.{length-each}
use Rattle.places.specs.Stands.{Stands}
use Rattle.places.specs.Places.{tables_of, table_at, column_type_at, row_at, cell_at, argument_at, element_at}
use Rattle.places.specs.Entries.{entry, Here, cell_here, value_here, values_in, element_of}
use Rattle.places.proofs.Stands.{stands_at_lem}
use Rattle.places.proofs.Lists.{entry_in, entry_below, stands_entry, stands_cell}
use Rattle.places.proofs.Layouts.{rows_stand, cells_stand, row_place, cell_place}
use Rattle.places.proofs.Replies.{table_stands}
use Rattle.places.proofs.Calls.{argument_stands, is_null, is_one, arrayed, element_place}

-- a value that was found, where it is said to stand
pub record Shows (m : List ℕ) (h : Here) : Type 0 where
  pub length-field : ℕ
  pub body_field : ℕ
  pub stands : Stands (value length-field body_field h.type) m h.at h.value

-- and its bytes are there
module _ (m : List ℕ) (h : Here) (w : Shows m h) where
  pub bytes_there : take (length ((value w.length-field w.body_field h.type).bytes h.value)) (drop h.at m) ≡ (value w.length-field w.body_field h.type).bytes h.value
  bytes_there =
      let d = w.stands in
      rw (← d.whole, drop_at d.before ((value w.length-field w.body_field h.type).bytes h.value ++ d.after) h.at d.start, take_at ((value w.length-field w.body_field h.type).bytes h.value) d.after _ refl)

-- the bytes of a body stand after its length
abbrev kind_of : Value → ℕ
kind_of (fixed n) = 0
kind_of (body b) = 1

body_bytes_lem : (l b t : ℕ) (bs : List ℕ) (c : Bool) → is_counted t ≡ c → (value l b t).Good (body (some bs)) → (value l b t).bytes (body (some bs)) ≡ num_bytes 4 (length bs) ++ bs
unfolding value into counted
body_bytes_lem l b t bs true e g = rw e
body_bytes_lem l b t bs false e g = absurd (let z : ◌≡◌ {A = ℕ} 0 1 = ap kind_of (rw e at g).1 in omega arith)

pub body_stands : {m : List ℕ} {at : ℕ} (l b t : ℕ) (bs : List ℕ) → Stands (value l b t) m at (body (some bs)) → (at + 4 + length bs ≤ length m) × (take (length bs) (drop (at + 4) m) ≡ bs)
body_stands {m} {at} l b t bs d =
    let bytes = body_bytes_lem l b t bs (is_counted t) refl d.good in
    let whole : d.before ++ ((num_bytes 4 (length bs) ++ bs) ++ d.after) ≡ m = rw bytes at d.whole in
    let front : (d.before ++ num_bytes 4 (length bs)) ++ (bs ++ d.after) ≡ m = rw (append_assoc d.before, ← append_assoc (num_bytes 4 (length bs))) whole in
    let far : length (d.before ++ num_bytes 4 (length bs)) ≡ at + 4 = rw (length-append, length-num_bytes) (omega (arith, d.start)) in
    let part : take (length bs) (drop (at + 4) m) ≡ bs = rw (← front, drop_at (d.before ++ num_bytes 4 (length bs)) (bs ++ d.after) (at + 4) far, take_at bs d.after _ refl) in
    (omega (arith, far, ap length front, length-append (d.before ++ num_bytes 4 (length bs)) (bs ++ d.after), length-append bs d.after), part)

-- a cell that is there stands at its place
module _ (m : List ℕ) {at : ℕ} {b : Table} (d : Stands table m at b) (k c : ℕ) (in_rows : k < length b.rows) (in-types : c < length b.metadata.types) where
  pub record There : Type 0 where
    pub here : Here
    pub is : cell_here at b k c ≡ ok here
    pub stands : Stands (value 50 51 here.type) m here.at here.value

  pub there : There
  there =
      let l = b.metadata.types in
      let vs = entry_in b.rows k in_rows in
      let ty = entry_in l c in-types in
      let row_here : Stands (row l) m (row_at at b k) vs.0 = stands_at_lem (sym (row_place at b k)) (stands_entry second 0 (length b.rows) (row l) b.rows k (rows_stand d) vs.1) in
      let inner = cells_stand l row_here in
      let all : length vs.0 ≡ length l = length-each third 0 (map (value 50 51) l) vs.0 inner.good ∙ length-map l (value 50 51) in
      let v = entry_in vs.0 c (omega arith) in
      record {
        here = record { type = ty.0; type_at = column_type_at at b.metadata c; at = cell_at (row_at at b k) l vs.0 c; value = v.0 };
        is = rw (vs.1, ty.1, v.1);
        stands = stands_at_lem (sym (cell_place (row_at at b k) l vs.0 c)) (stands_cell third 0 (value 50 51) l vs.0 c inner ty.1 v.1);
      }

-- a cell that was found stands there
pub cell_stands : (timed : Bool) (m : List ℕ) → Bytes m → (t k c : ℕ) (p : Message) → read_message (response_layout timed) m ≡ ok p → (b : Table) → entry (tables_of p) t ≡ ok b → (h : Here) → cell_here (table_at timed p t) b k c ≡ ok h → Shows m h
cell_stands timed m all t k c p e b there-is h f =
    let v = bound (entry b.rows k) f in
    let y = bound (entry b.metadata.types c) v.2 in
    let w = there m (table_stands timed m all p e t there-is) k c (entry_below b.rows k v.1) (entry_below b.metadata.types c y.1) in
    let same : w.here ≡ h = ok_same (sym w.is ∙ f) in
    rw (← same) (record { length-field = 50; body_field = 51; stands = w.stands })

-- element e of a parameter at a place
abbrev pub element_here : ℕ → ℕ → Items → ℕ → Value → Here
element_here at t l e v = record { type = t; type_at = argument_at at; at = element_at at t l e; value = v }

-- what was found in a parameter stands there
module _ {m : List ℕ} {at : ℕ} {q : Param} (d : Stands param m at q) where
  pub value_stands : (h : Here) → value_here at q.type q.argument ≡ ok h → Shows m h
  value_stands h e = by_null (eqb q.type 1) refl
    where
      with_argument : {a : Argument} → q.argument ≡ a → value_here at q.type a ≡ ok h
      with_argument z = sym (ap (λ (a : Argument). value_here at q.type a) z) ∙ e

      by_array : (b : Bool) → eqb q.type 157 ≡ b → (q.type ≡ 1 → ⊥) → Shows m h
      by_array true y n = absurd (no_ok (with_argument (arrayed d (eqb-true q.type 157 y)).is))
      by_array false y n =
          let w = is_one q.type q.argument (argument_stands d) n (eqb-false q.type 157 y) in
          let same : record { type = q.type; type_at = at; at = argument_at at; value = one_of q.argument } ≡ h = ok_same (with_argument w.0) in
          rw (← same) (record { length-field = 27; body_field = 28; stands = w.1 })

      by_null : (b : Bool) → eqb q.type 1 ≡ b → Shows m h
      by_null true y = absurd (no_ok (with_argument (is_null q.type q.argument (argument_stands d) (eqb-true q.type 1 y))))
      by_null false y = by_array (eqb q.type 157) refl (eqb-false q.type 1 y)

  pub element_stands : (e : ℕ) (h : Here) → element_of at q.argument e ≡ ok h → Shows m h
  element_stands e h f = by_array (eqb q.type 157) refl
    where
      with_argument : {a : Argument} → q.argument ≡ a → element_of at a e ≡ ok h
      with_argument z = sym (ap (λ (a : Argument). element_of at a e) z) ∙ f

      by_null : (b : Bool) → eqb q.type 1 ≡ b → (q.type ≡ 157 → ⊥) → Shows m h
      by_null true y n = absurd (no_ok (with_argument (is_null q.type q.argument (argument_stands d) (eqb-true q.type 1 y))))
      by_null false y n = absurd (no_ok (with_argument (is_one q.type q.argument (argument_stands d) (eqb-false q.type 1 y) n).0))

      by_array : (b : Bool) → eqb q.type 157 ≡ b → Shows m h
      by_array true y =
          let w = arrayed d (eqb-true q.type 157 y) in
          let ty = w.type in
          let l = w.items_in in
          let ls = w.list_in in
          let v = bound (entry (values_in l) e) (with_argument w.is) in
          let here = stands_at_lem (sym (element_place at (at + 1 + 1) ty l ls e)) (stands_entry second 0 (length (values_in l)) (value 27 28 ty) (values_in l) e ls.elements v.1) in
          let same : element_here at ty l e v.0 ≡ h = ok_same v.2 in
          rw (← same) (record { length-field = 27; body_field = 28; stands = here })
      by_array false y = by_null (eqb q.type 1) refl (eqb-false q.type 157 y)
