-- A cell reads as exactly the bytes that are listed for it: on the way from the message to the cell, every part beside the way lists other fields, or has other indices.
use Prim.Native.Nat.{ℕ, zero, suc, ◌+◌, ◌≤◌, ◌<◌}
use mathlib.Core.Path.{◌≡◌, refl, sym, ◌∙◌, ap, subst}
use mathlib.Core.Bool.{Bool, true, false}
use mathlib.Core.List.{List, [], ◌∷◌, map}
use mathlib.Core.Option.{Option, some, none}
use lib.ListN.{length, take, replicate, length-append}
use lib.Seq.{length-take-le}
use lib.Dec.{ltb, leb, lit<}
use native.Mathlib.Omega.{arith}
use borrow.Author.Tests.{ltb-true, leb-true, leb-false, lt-ltb}
use Rattle.format.specs.declared.Fault.{Fault}
use Rattle.format.specs.Result.{Res, ok, no, bind}
use Rattle.format.specs.Number.{Bytes}
use Rattle.format.specs.Format.{Index, Entry, number, ruled, counted, each, piece}
use Rattle.format.specs.Value.{Value, value, is_column, ascii, most_bytes}
use Rattle.format.specs.Message.{first, second, third, count, column_type, unlimited, most_items, most_columns, most_row, metadata, row, Table, table, head, response, Message, message, content_of, the_response, response_layout, read_message, message_fields, no_index}
use Rattle.format.proofs.Results.{ok_same, no_ok, bound}
use Rattle.format.proofs.Numbers.{length-num_bytes}
use Rattle.format.proofs.Lengths.{lawful_counted}
use Rattle.places.specs.Stands.{Stands}
use Rattle.places.specs.Places.{tables_of, table_at, column_type_at, name_at, name_bytes, row_at, cell_at}
use Rattle.places.specs.Entries.{entry, Here, cell_here}
use Rattle.places.proofs.Stands.{stands_at_lem}
use Rattle.places.proofs.Lists.{total, length-total, entry_in, entry_below, stands_entry}
use Rattle.places.proofs.Layouts.{length-number, length-count, name, types_total, type_place_lem, name_place_lem, row_place, cell_place, metadata_stands, types_stand, names_stand, names_all, type_stands}
use Rattle.places.proofs.Contents.{content_response}
use Rattle.places.proofs.Replies.{tabled, head_size, table_place, table_stands}
use Rattle.places.proofs.Values.{there}
use Rattle.show.specs.declared.Cell.{Cell}
use Rattle.show.specs.Cells.{type_of}
use Rattle.query.specs.declared.ColumnLayout.{ColumnLayout}
use Rattle.query.specs.Answers.{column_of, shown_here, place_here, span_in, ask_column, ask_column_name, ask_cell, ask_cell_place}
use Rattle.exactly.specs.Listed.{listed_for, bytes_at, start_of, bytes_for, field_bytes, CellReads, Alike}
use Rattle.exactly.proofs.Alone.{Other, Misses, Alone, misses, misses_number, misses_counted, misses_ruled, misses_some, misses_list, misses_value, none_piece, in_back, in_room, in_into, in_ruled, in_first, in_second, in_some, in_cells, in_list, past_cells, past_list}
use Rattle.exactly.proofs.Says.{start_counted, alone_number, alone_counted, alone_value, stands_bytes, kept, byte_reads, listed_start, listed_bytes, value_reads, reads_alike}

-- ---- parts of a response that list nothing for it, if no such field at such indices is it
module _ {l b : ℕ} {ix jx : Index} where
  misses_row : (types : List ℕ) → ((n : ℕ) (y : Index) → leb 49 n ≡ true → y.i ≡ jx.i → y.j ≡ jx.j → Other l b ix n y) → Misses l b ix (row types) jx
  unfolding row
  misses_row types w = search (misses, misses_value) depth 8

  misses_metadata : ((n : ℕ) (y : Index) → ltb n 48 ≡ true → y.i ≡ jx.i → Other l b ix n y) → Misses l b ix metadata jx
  unfolding metadata
  misses_metadata w = search misses depth 12 fits 2000

module _ {l b : ℕ} {ix jx : Index} where
  misses_table : ((n : ℕ) (y : Index) → y.i ≡ jx.i → Other l b ix n y) → Misses l b ix table jx
  unfolding table
  misses_table w = search (misses, misses_metadata, misses_row) depth 8

  misses_head : (timed : Bool) → ((n : ℕ) (y : Index) → ltb n 41 ≡ true → Other l b ix n y) → Misses l b ix (head timed) jx
  unfolding head
  misses_head timed w = search misses depth 12 fits 2000

pub length-ruled : (rule : ℕ → Bool) (fault : Fault) (k field n : ℕ) → length ((ruled rule fault (number k field)).bytes n) ≡ k
unfolding ruled
length-ruled rule fault k field n = length-number k field n

name_size : (n : Option (List ℕ)) → length (name.bytes n) ≡ 4 + length (name_bytes n)
unfolding counted
name_size none = rw length-num_bytes
name_size (some bs) = rw (length-append, length-num_bytes)

-- ---- on the way to a table, and in it to a column's type, its name, or a cell
module _ {l b : ℕ} {ix : Index} {es : List Entry} where
  -- a message's content, after its length and its version
  pub in_message : (layout : ℕ) (r : Message) → ((n : ℕ) (y : Index) → leb n 2 ≡ true → Other l b ix n y) → Alone l b ix es (content_of layout r.version) no_index 5 r.content → listed_for l b ix (message_fields layout r) ≡ es
  unfolding message
  in_message layout r low w =
      let inner : Alone l b ix es (message layout) no_index 4 r = in_into _ _ (in_second (content_of layout) (search (misses, low)) (rw length-ruled w)) in
      in_back l b ix (piece 4 0 1 no_index) _ (none_piece l b ix 4 0 1 no_index (low 1 no_index refl)) inner.is

  -- the tables of a response, and table t of them
  in_tables : (timed : Bool) (r : Message) → ((n : ℕ) (y : Index) → ltb n 41 ≡ true → Other l b ix n y) → Alone l b ix es tabled no_index (5 + head_size timed (the_response r.content)) (tables_of r)
      → listed_for l b ix (message_fields (response_layout timed) r) ≡ es
  unfolding response
  in_tables timed r low w =
      in_message (response_layout timed) r (λ n y h. low n y (lt-ltb n 41 (omega (arith, leb-true n 2 h))))
      (rw (content_response timed r.version) (in_into _ _ (in_into _ _ (in_second _ (misses_head timed low) w))))

  in_response : (timed : Bool) (r : Message) (t : ℕ) {tab : Table} → ix.i ≡ t → ((n : ℕ) (y : Index) → ltb n 41 ≡ true → Other l b ix n y) → entry (tables_of r) t ≡ ok tab
      → Alone l b ix es table (first t no_index) (table_at timed r t) tab → listed_for l b ix (message_fields (response_layout timed) r) ≡ es
  in_response timed r t same low e w =
      in_tables timed r low (in_list first 2 most_items 40 (tables_of r) t e (low 40 no_index refl) (λ j h. misses_table (omega arith)) (rw (table_place timed r t) at w))

module _ (jx : Index) (at : ℕ) (tab : Table) where
  abbrev types : List ℕ
  types = tab.metadata.types

  -- the type of column c
  type_alone : (c : ℕ) {x : ℕ} → entry types c ≡ ok x → Alone 45 45 (third c jx) ((number 1 45).fields (third c jx) (column_type_at at tab.metadata c) x) table jx at tab
  unfolding table metadata
  type_alone c e =
      in_room unlimited 41 (omega arith) (in_into _ _ (in_first (λ m. misses_list second 4 unlimited 48 (omega arith) (λ j. misses_row m.types (omega (arith, leb-true))))
      (in_room unlimited 42 (omega arith) (in_into _ _ (in_second _ (misses_number 1 43 (omega arith)) (in_second _ (search (misses, other_44))
      (in_first (λ u. search (misses, other_name)) (in_some third (length types) types c (omega arith) e (λ j h. misses_ruled _ _ (misses_number 1 45 (omega arith))) (in_ruled _ _ (alone_number 1 45 (third c jx) place))))))))))
    where
      other_44 : Other 45 45 (third c jx) 44 jx
      other_44 = omega arith

      other_name : (n : ℕ) (y : Index) → leb 46 n ≡ true → Other 45 45 (third c jx) n y
      other_name n y h = omega (arith, leb-true 46 n h)

      place : at + 4 + 4 + length ((number 1 43).bytes tab.metadata.status) + length ((count 2 most_columns 44).bytes (length types)) + total (column_type 45) (take c types) ≡ column_type_at at tab.metadata c
      place =
          let below = entry_below types c e in
          omega (arith, length-number 1 43 tab.metadata.status, length-count 2 most_columns 44 (length types), types_total (take c types), length-take-le c types (omega arith), type_place_lem at tab.metadata c (omega arith))

  -- the name of column c
  name_alone : (c : ℕ) {n : Option (List ℕ)} → length tab.metadata.names ≡ length types → entry tab.metadata.names c ≡ ok n
      → Alone 46 47 (third c jx) (name.fields (third c jx) (name_at at tab.metadata c) n) table jx at tab
  unfolding table metadata
  name_alone c all e =
      in_room unlimited 41 (omega arith) (in_into _ _ (in_first (λ m. misses_list second 4 unlimited 48 (omega arith) (λ j. misses_row m.types (omega (arith, leb-true))))
      (in_room unlimited 42 (omega arith) (in_into _ _ (in_second _ (misses_number 1 43 (omega arith)) (in_second _ (search (misses, other_44))
      (in_second _ (misses_some third 0 (length types) (λ j h. misses_ruled _ _ (misses_number 1 45 (omega arith))))
      (in_some third (length types) tab.metadata.names c (omega arith) e (λ j h. misses_counted false most_bytes ascii 46 47 (omega arith) (omega arith)) (alone_counted false ascii 46 47 (third c jx) place)))))))))
    where
      other_44 : Other 46 47 (third c jx) 44 jx
      other_44 = omega arith

      place : at + 4 + 4 + length ((number 1 43).bytes tab.metadata.status) + length ((count 2 most_columns 44).bytes (length types)) + length ((each third 0 (replicate (length types) (column_type 45))).bytes types) + total name (take c tab.metadata.names)
          ≡ name_at at tab.metadata c
      place =
          let below = entry_below tab.metadata.names c e in
          let few = length-take-le c tab.metadata.names (omega arith) in
          omega (arith, length-number 1 43 tab.metadata.status, length-count 2 most_columns 44 (length types), length-total third 0 (length types) (column_type 45) types (omega arith), types_total types, name_place_lem at tab.metadata c (omega arith))

  -- the cells of row k, and that in column c
  in_rows : {es : List Entry} (k c : ℕ) (cells : List Value) → entry tab.rows k ≡ ok cells → Alone 50 51 (third c (second k jx)) es (each third 0 (map (value 50 51) types)) (second k jx) (row_at at tab k + 4) cells
      → Alone 50 51 (third c (second k jx)) es table jx at tab
  unfolding table row
  in_rows k c cells e w =
      in_room unlimited 41 (omega arith) (in_into _ _ (in_second _ (misses_metadata (omega (arith, ltb-true))) (in_list second 4 unlimited 48 tab.rows k e (omega arith) (λ j s. misses_row types (omega arith))
      (in_room most_row 49 (omega arith) (rw (row_place at tab k) at w)))))

  cell_alone : (k c : ℕ) (cells : List Value) {x : ℕ} {v : Value} → entry tab.rows k ≡ ok cells → entry types c ≡ ok x → entry cells c ≡ ok v
      → Alone 50 51 (third c (second k jx)) ((value 50 51 x).fields (third c (second k jx)) (cell_at (row_at at tab k) types cells c) v) table jx at tab
  cell_alone k c cells {x} in_row in-types e =
      in_rows k c cells in_row (in_cells third (value 50 51) types cells c in-types e (λ y j s. misses_value 50 51 y (omega arith) (omega arith)) (alone_value 50 51 x (third c (second k jx)) (sym (cell_place (row_at at tab k) types cells c))))

  -- past the rows, or past the columns
  row_past : (k c : ℕ) → length tab.rows ≤ k → Alone 50 51 (third c (second k jx)) [] table jx at tab
  unfolding table
  row_past k c few = in_room unlimited 41 (omega arith) (in_into _ _ (in_second _ (misses_metadata (omega (arith, ltb-true))) (past_list second 4 unlimited 48 tab.rows k few (omega arith) (λ j s. misses_row types (omega arith)))))

  column_past : (k c : ℕ) (cells : List Value) → entry tab.rows k ≡ ok cells → length types ≤ c → Alone 50 51 (third c (second k jx)) [] table jx at tab
  column_past k c cells e few = in_rows k c cells e (past_cells third (value 50 51) types cells c few (λ y j s. misses_value 50 51 y (omega arith) (omega arith)))

-- ---- a cell that is answered
module _ (timed : Bool) (m : List ℕ) (all : Bytes m) (r : Message) (accepted : read_message (response_layout timed) m ≡ ok r) (t k c : ℕ) {tab : Table} (is : entry (tables_of r) t ≡ ok tab) where
  abbrev at : ℕ
  at = table_at timed r t

  abbrev fs : List Entry
  fs = message_fields (response_layout timed) r

  stood : Stands table m at tab
  stood = table_stands timed m all r accepted t is

  type_reads : {x : ℕ} → entry tab.metadata.types c ≡ ok x → field_bytes 45 (record { i = t; j = 0; k = c }) m fs ≡ x ∷ []
  type_reads {x} e =
      let below = entry_below tab.metadata.types c e in
      byte_reads m 45 _ fs (column_type_at at tab.metadata c) x (stands_at_lem (omega (arith, type_place_lem at tab.metadata c (omega arith))) (type_stands (metadata_stands stood) c (omega arith) e))
      (in_response timed r t refl (omega (arith, ltb-true)) is (type_alone (first t no_index) at tab c e))

  column_type_lem : {x : ℕ} → entry tab.metadata.types c ≡ ok x → is_column x ≡ true
  unfolding ruled
  column_type_lem e = (stands_entry third 0 (length tab.metadata.types) (column_type 45) tab.metadata.types c (types_stand (metadata_stands stood)) e).good.1

  -- a cell that is there: it stands at its place, and only its fields are listed for it
  record Found (h : Here) : Type 0 where
    type_is : entry tab.metadata.types c ≡ ok h.type
    stands : Stands (value 50 51 h.type) m h.at h.value
    listed : listed_for 50 51 (record { i = t; j = k; k = c }) fs ≡ (value 50 51 h.type).fields (record { i = t; j = k; k = c }) h.at h.value

  found : (h : Here) → cell_here at tab k c ≡ ok h → Found h
  found h e =
      let cells = bound (entry tab.rows k) e in
      let x = bound (entry tab.metadata.types c) cells.2 in
      let v = bound (entry cells.0 c) x.2 in
      let same : record { type = x.0; type_at = column_type_at at tab.metadata c; at = cell_at (row_at at tab k) tab.metadata.types cells.0 c; value = v.0 } ≡ h = ok_same v.2 in
      let w = there m stood k c (entry_below tab.rows k cells.1) (entry_below tab.metadata.types c x.1) in
      let d = subst (λ (z : Here). Stands (value 50 51 z.type) m z.at z.value) (ok_same (sym w.is ∙ e) ∙ sym same) w.stands in
      rw (← same) (record {
        type_is = x.1;
        stands = d;
        listed = in_response timed r t refl (omega (arith, ltb-true)) is (cell_alone (first t no_index) at tab k c cells.0 cells.1 x.1 v.1);
      })

  pub here_reads : (h : Here) → cell_here at tab k c ≡ ok h → CellReads m fs t k c (shown_here h)
  here_reads h e =
      let f = found h e in
      let fine = column_type_lem f.type_is in
      record {
        type_byte = type_reads f.type_is ∙ ap (λ (z : ℕ). z ∷ []) (sym (kept m all 50 51 h.type _ h.value fine f.stands).1);
        cell = value_reads m all 50 51 h.type _ h.value fine f.stands _ fs f.listed;
      }

  pub here_placed : (h : Here) → cell_here at tab k c ≡ ok h → (start_of (listed_for 50 51 (record { i = t; j = k; k = c }) fs), length (bytes_for 50 51 (record { i = t; j = k; k = c }) m fs)) ≡ place_here h
  here_placed h e =
      let f = found h e in
      let fine = column_type_lem f.type_is in
      rw (listed_start m all 50 51 h.type _ h.value fine f.stands _ fs f.listed, listed_bytes m all 50 51 h.type _ h.value fine f.stands _ fs f.listed)

  -- a column's name: its length and its bytes
  name_placed : {n : Option (List ℕ)} → entry tab.metadata.names c ≡ ok n
      → (start_of (listed_for 46 47 (record { i = t; j = 0; k = c }) fs) ≡ name_at at tab.metadata c) × (length (bytes_for 46 47 (record { i = t; j = 0; k = c }) m fs) ≡ 4 + length (name_bytes n))
  name_placed {n} e =
      let md = metadata_stands stood in
      let names = tab.metadata.names in
      let below = entry_below names c e in
      let few = length-take-le c names (omega arith) in
      let all_named = names_all md in
      let d : Stands name m (name_at at tab.metadata c) n = stands_at_lem (omega (arith, name_place_lem at tab.metadata c (omega arith))) (stands_entry third 0 (length tab.metadata.types) name names c (names_stand md) e) in
      let w = in_response timed r t refl (omega (arith, ltb-true)) is (name_alone (first t no_index) at tab c all_named e) in
      (ap start_of w ∙ start_counted 46 47 _ false n ascii _, ap length (ap (bytes_at m) w ∙ stands_bytes (lawful_counted false most_bytes ascii 46 47 (lit< tt)) m _ d) ∙ name_size n)

pub cell_reads_its_bytes : (m : List ℕ) → Bytes m → (r : Message) → read_message 4 m ≡ ok r → (t k c : ℕ) (x : Cell) → ask_cell m t k c ≡ ok x → CellReads m (message_fields 4 r) t k c x
cell_reads_its_bytes m all r accepted t k c x e =
    let tab = bound (entry (tables_of r) t) {k = λ b. bind (cell_here (table_at true r t) b k c) (λ h. ok (shown_here h))} (rw accepted at e) in
    let h = bound (cell_here (table_at true r t) tab.0 k c) tab.2 in
    subst (CellReads m (message_fields 4 r) t k c) (ok_same h.2) (here_reads true m all r accepted t k c tab.1 h.0 h.1)

-- and its place and size are those of what is listed
pub place_is_listed : (m : List ℕ) → Bytes m → (r : Message) → read_message 4 m ≡ ok r → (t k c : ℕ) (p : Option (ℕ × ℕ)) → ask_cell_place m t k c ≡ ok p
    → p ≡ some (start_of (listed_for 50 51 (record { i = t; j = k; k = c }) (message_fields 4 r)), length (bytes_for 50 51 (record { i = t; j = k; k = c }) m (message_fields 4 r)))
place_is_listed m all r accepted t k c p e =
    let tab = bound (entry (tables_of r) t) {k = λ b. bind (cell_here (table_at true r t) b k c) (λ h. ok (some (place_here h)))} (rw accepted at e) in
    let h = bound (cell_here (table_at true r t) tab.0 k c) tab.2 in
    sym (ok_same h.2) ∙ ap some (sym (here_placed true m all r accepted t k c tab.1 h.0 h.1))

-- what is listed for a column's name begins with its length, of 4 bytes, and then its place; and it has its size beside those
pub name_is_listed : (m : List ℕ) → Bytes m → (r : Message) → read_message 4 m ≡ ok r → (t c start size : ℕ) → ask_column_name m t c ≡ ok (some (start, size))
    → (start_of (listed_for 46 47 (record { i = t; j = 0; k = c }) (message_fields 4 r)) + 4 ≡ start) × (length (bytes_for 46 47 (record { i = t; j = 0; k = c }) m (message_fields 4 r)) ≡ 4 + size)
name_is_listed m all r accepted t c start size e =
    let l = bound (ask_column m t c) e in
    let opened = ap (λ (z : Res Message). bind z (λ y. bind (entry (tables_of y) t) (λ b. column_of (table_at true y t) b c))) accepted in
    let tab = bound (entry (tables_of r) t) {k = λ b. column_of (table_at true r t) b c} (sym opened ∙ l.1) in
    let type = bound (entry tab.0.metadata.types c) tab.2 in
    let n = bound (entry tab.0.metadata.names c) type.2 in
    let w = name_placed true m all r accepted t 0 c tab.1 n.1 in
    let layout = ok_same n.2 in
    let part = ok_same l.2 in (
      ap (λ (x : ℕ). x + 4) w.0 ∙ ap (λ (z : ColumnLayout). z.name) layout ∙ ap (λ (z : Option (ℕ × ℕ)). (span_in (ok z)).0) part,
      w.1 ∙ ap (λ (x : ℕ). 4 + x) (ap (λ (z : ColumnLayout). z.name_length) layout ∙ ap (λ (z : Option (ℕ × ℕ)). (span_in (ok z)).1) part),
    )

-- ---- for a cell that is refused nothing is listed
pub entry_none : {A : Type 0} (l : List A) (i : ℕ) {f : Fault} {p : ℕ} → entry l i ≡ no f p → length l ≤ i
entry_none [] i e = omega arith
entry_none (a ∷ l) zero e = absurd (no_ok (sym e))
entry_none (a ∷ l) (suc i) e = let h = entry_none l i e in omega arith

module _ (timed : Bool) (m : List ℕ) (all : Bytes m) (r : Message) (accepted : read_message (response_layout timed) m ≡ ok r) (t k c : ℕ) where
  abbrev none_listed : Type 0
  none_listed = listed_for 50 51 (record { i = t; j = k; k = c }) (message_fields (response_layout timed) r) ≡ []

  no_table : {f : Fault} {p : ℕ} → entry (tables_of r) t ≡ no f p → none_listed
  no_table e = in_tables timed r (omega (arith, ltb-true)) (past_list first 2 most_items 40 (tables_of r) t (entry_none (tables_of r) t e) (omega arith) (λ j h. misses_table (omega arith)))

  no_cell : (tab : Table) → entry (tables_of r) t ≡ ok tab → {f : Fault} {p : ℕ} → cell_here (table_at timed r t) tab k c ≡ no f p → none_listed
  no_cell tab is {f} {p} e = in_response timed r t refl (omega (arith, ltb-true)) is (by_row (leb (length tab.rows) k) refl)
    where
      by_column : k < length tab.rows → (b : Bool) → leb (length tab.metadata.types) c ≡ b → Alone 50 51 (record { i = t; j = k; k = c }) [] table (first t no_index) (table_at timed r t) tab
      by_column in_rows true h = let cells = entry_in tab.rows k in_rows in column_past (first t no_index) (table_at timed r t) tab k c cells.0 cells.1 (leb-true _ c h)
      by_column in_rows false h = absurd (no_ok (sym e ∙ (there m (table_stands timed m all r accepted t is) k c in_rows (leb-false _ c h)).is))

      by_row : (b : Bool) → leb (length tab.rows) k ≡ b → Alone 50 51 (record { i = t; j = k; k = c }) [] table (first t no_index) (table_at timed r t) tab
      by_row true h = row_past (first t no_index) (table_at timed r t) tab k c (leb-true _ k h)
      by_row false h = by_column (leb-false _ k h) (leb (length tab.metadata.types) c) refl

pub refused_cell_has_no_bytes : (m : List ℕ) → Bytes m → (r : Message) → read_message 4 m ≡ ok r → (t k c : ℕ) {f : Fault} {p : ℕ} → ask_cell m t k c ≡ no f p → listed_for 50 51 (record { i = t; j = k; k = c }) (message_fields 4 r) ≡ []
refused_cell_has_no_bytes m all r accepted t k c {f} {p} e = by_table (entry (tables_of r) t) refl (rw accepted at e)
  where
    by_cell : (tab : Table) → entry (tables_of r) t ≡ ok tab → (h : Res Here) → cell_here (table_at true r t) tab k c ≡ h → bind h (λ h. ok (shown_here h)) ≡ no f p → none_listed true m all r accepted t k c
    by_cell tab is (ok h) w g = absurd (no_ok (sym g))
    by_cell tab is (no f p) w g = no_cell true m all r accepted t k c tab is w

    by_table : (tab : Res Table) → entry (tables_of r) t ≡ tab → bind tab (λ b. bind (cell_here (table_at true r t) b k c) (λ h. ok (shown_here h))) ≡ no f p → none_listed true m all r accepted t k c
    by_table (ok tab) is g = by_cell tab is (cell_here (table_at true r t) tab k c) refl g
    by_table (no f p) is g = no_table true m all r accepted t k c is

-- ---- no other byte has a part in a cell's value: cells of two messages that have the same bytes listed for them, and for their columns' types, are the same value
pub cells_alike : (m n : List ℕ) → Bytes m → Bytes n → (r s : Message) → read_message 4 m ≡ ok r → read_message 4 n ≡ ok s → (ix jx : Index) (x y : Cell)
    → ask_cell m ix.i ix.j ix.k ≡ ok x → ask_cell n jx.i jx.j jx.k ≡ ok y
    → field_bytes 45 (second 0 ix) m (message_fields 4 r) ≡ field_bytes 45 (second 0 jx) n (message_fields 4 s) → bytes_for 50 51 ix m (message_fields 4 r) ≡ bytes_for 50 51 jx n (message_fields 4 s)
    → Alike m n (start_of (listed_for 50 51 ix (message_fields 4 r))) (start_of (listed_for 50 51 jx (message_fields 4 s))) x y
cells_alike m n all-m all-n r s e f ix jx x y p q type-bytes bytes =
    let a = cell_reads_its_bytes m all-m r e ix.i ix.j ix.k x p in
    let c = cell_reads_its_bytes n all-n s f jx.i jx.j jx.k y q in
    let same : type_of x ∷ [] ≡ type_of y ∷ [] = sym a.type_byte ∙ type-bytes ∙ c.type_byte in
    reads_alike 50 51 ix jx m n (message_fields 4 r) (message_fields 4 s) x y (cc) bytes a.cell c.cell
