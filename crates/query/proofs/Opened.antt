-- What an acceptance says, and what is known of a table that was found.
use Prim.Native.Nat.{ℕ, suc, ◌+◌, ◌≤◌, ◌<◌}
use mathlib.Core.Path.{◌≡◌, refl, sym, ◌∙◌, ap}
use mathlib.Core.Bool.{Bool}
use mathlib.Core.List.{List, [], ◌∷◌}
use mathlib.Core.Option.{Option, some, none}
use lib.ListN.{length, replicate, get_or}
use native.Mathlib.Omega.{arith}
use Rattle.format.specs.declared.Fault.{Fault}
use Rattle.format.specs.declared.Fault.TheVariants.{PastEnd}
use Rattle.format.specs.Result.{Res, ok, no, bind}
use Rattle.format.specs.Number.{Bytes}
use Rattle.format.specs.Format.{number, each}
use Rattle.format.specs.Message.{first, third, head, Table, table, Message, the_response, response_layout, read_message}
use Rattle.format.proofs.Results.{ok_same, no_ok, bound}
use Rattle.format.proofs.Formats.{lawful_head, lawful_value}
use Rattle.show.specs.declared.Cell.{Cell}
use Rattle.show.specs.Cells.{cell_of, unruled, shown_as}
use Rattle.show.proofs.Values.{unruled_reads}
use Rattle.scan.specs.Shown.{shown_next, shown, number_in}
use Rattle.pass.specs.Passes.{Passes}
use Rattle.places.specs.Stands.{Stands}
use Rattle.places.specs.Places.{name_bytes, tables_of, table_at, column_type_at, name_at, row_at}
use Rattle.places.specs.Entries.{entry, Here, cell_here}
use Rattle.places.proofs.Stands.{stands_read, stands_fits}
use Rattle.places.proofs.Lists.{entry_in, entry_past, entry_below, entry_missing, sized}
use Rattle.places.proofs.Layouts.{length-number, sized_table, name, names_from, names_stand, metadata_stands, type_place_lem}
use Rattle.places.proofs.Replies.{head_size, head_stands, table_place, response_stands, table_count_stands, tables_stand, table_stands}
use Rattle.places.proofs.Values.{Shows, there}
use Rattle.query.specs.declared.Spot.{Spot}
use Rattle.query.specs.Shown.{past_of, cell_in, spot_of, shown_of}
use Rattle.query.specs.declared.ColumnLayout.{ColumnLayout}
use Rattle.query.specs.Answers.{perhaps, of_part, of_table, layout_of, column_of, shown_here, place_here, part_of, span_in}
use Rattle.format.specs.Value.{value, body}
use Rattle.query.specs.declared.TableLayout.{TableLayout}
use Rattle.query.proofs.Walks.{after_is, over_is, count_is}
use Rattle.query.proofs.Parts.{bytes_in, part_stands}

pub bytes_all : (s : List ℕ) → ((k : ℕ) → get_or s k 0 < 256) → Bytes s
bytes_all [] all = tt
bytes_all (b ∷ s) all = (all 0, bytes_all s (λ k. all (suc k)))

module _ {A B : Type 0} where
  -- a refusal of one question is that of another
  pub retold : {f g : Fault} {p q : ℕ} → ◌≡◌ {A = Res A} (no f p) (no g q) → ◌≡◌ {A = Res B} (no f p) (no g q)
  retold {f} {g} {p} {q} e = let fault : f ≡ g = cc in let place : p ≡ q = cc in rw (fault, place)

module _ {A : Type 0} (kind : ℕ) (m : List ℕ) where
  -- what a refused message and an accepted one are asked
  pub refused : (k : Message → Res A) {f : Fault} {p : ℕ} → read_message kind m ≡ no f p → no f p ≡ bind (read_message kind m) k
  refused k e = sym (ap (λ (r : Res Message). bind r k) e)

  pub admitted : (k : Message → Res A) {x : Res A} {p : Message} → read_message kind m ≡ ok p → x ≡ k p → x ≡ bind (read_message kind m) k
  admitted k e f = f ∙ sym (ap (λ (r : Res Message). bind r k) e)

module _ (timed : Bool) (m : List ℕ) (b : Bytes m) (p : Message) (accepted : read_message (response_layout timed) m ≡ ok p) where
  -- what comes before the table count ends there
  head_ends : {counted : ℕ} → Passes (head timed) m 5 counted → counted ≡ 5 + head_size timed (the_response p.content)
  head_ends e = e.ends _ _ (stands_read (lawful_head timed) (head_stands timed (response_stands timed m b p accepted)))

  pub tables_is : (counted : ℕ) {n : ℕ} → Passes (head timed) m 5 counted → n ≡ number_in (shown ((number 2 0).read m counted)) → n ≡ length (tables_of p)
  tables_is counted e f = count_is m 2 40 counted f (head_ends e) (table_count_stands timed m b p accepted)

  pub table_at_is : (t counted from : ℕ) {at : ℕ} → t < length (tables_of p) → Passes (head timed) m 5 counted
      → from ≡ past_of (shown_next ((number 2 0).read m counted)) → at ≡ past_of (shown_next ((each first 0 (replicate t sized)).read m from)) → at ≡ table_at timed p t
  table_at_is t counted from h e f g =
      let fit = stands_fits (table_count_stands timed m b p accepted) in
      let from_is : from ≡ 5 + head_size timed (the_response p.content) + 2 = after_is m 2 counted f (head_ends e) (omega (arith, length-number 2 40 (length (tables_of p)))) in
      over_is m sized_table first (length (tables_of p)) t (tables_of p) from g from_is (omega arith) (tables_stand timed m b p accepted) ∙ sym (table_place timed p t)

  -- a table past the end, and one that is there
  pub table_past : (t : ℕ) → length (tables_of p) ≤ t → no PastEnd 0 ≡ bind (entry (tables_of p) t) (λ tab. ok (layout_of (table_at timed p t) tab))
  table_past t h = sym (ap (λ (r : Res Table). bind r (λ tab. ok (layout_of (table_at timed p t) tab))) (entry_past (tables_of p) t h))

  pub table_found : (t at : ℕ) {l : TableLayout} → t < length (tables_of p) → at ≡ table_at timed p t → ((tab : Table) → Stands table m at tab → l ≡ layout_of at tab)
      → ok l ≡ bind (entry (tables_of p) t) (λ tab. ok (layout_of (table_at timed p t) tab))
  table_found t at {l} h same lays =
      let w = entry_in (tables_of p) t h in
      let is : l ≡ layout_of (table_at timed p t) w.0 = rw same at (lays w.0 (rw same (table_stands timed m b p accepted t w.1))) in
      ap ok is ∙ sym (ap (λ (r : Res Table). bind r (λ tab. ok (layout_of (table_at timed p t) tab))) w.1)

-- a table that was found
pub record Opened (timed : Bool) (m : List ℕ) (t : ℕ) (l : TableLayout) : Type 0 where
  pub message : Message
  pub accepted : read_message (response_layout timed) m ≡ ok message
  pub tab : Table
  pub there : entry (tables_of message) t ≡ ok tab
  pub stands : Stands table m (table_at timed message t) tab
  pub is : l ≡ layout_of (table_at timed message t) tab

module _ (timed : Bool) (m : List ℕ) (b : Bytes m) (t : ℕ) where
  pub opened : {l : TableLayout} → ok l ≡ of_table timed m t (λ at tab. ok (layout_of at tab)) → Opened timed m t l
  opened e =
      let r = bound (read_message (response_layout timed) m) (sym e) in
      let q = bound (entry (tables_of r.0) t) r.2 in
      record { message = r.0; accepted = r.1; tab = q.0; there = q.1; stands = table_stands timed m b r.0 r.1 t q.1; is = sym (ok_same q.2) }

module _ {timed : Bool} {m : List ℕ} {t : ℕ} {l : TableLayout} (o : Opened timed m t l) where
  abbrev place : ℕ
  place = table_at timed o.message t

  -- what is asked of it
  pub asked : {A : Type 0} (ask : ℕ → Table → Res A) → of_table timed m t ask ≡ ask (table_at timed o.message t) o.tab
  asked {A} ask =
      ap (λ (r : Res Message). bind r (λ z. bind (entry (tables_of z) t) (λ tab. ask (table_at timed z t) tab))) o.accepted
      ∙ ap (λ (r : Res Table). bind r (λ tab. ask (table_at timed o.message t) tab)) o.there

  pub columns_are : l.columns ≡ length o.tab.metadata.types
  columns_are = ap (λ (z : TableLayout). z.columns) o.is

  pub rows_are : l.rows ≡ length o.tab.rows
  rows_are = ap (λ (z : TableLayout). z.rows) o.is

  pub types_at : l.types ≡ column_type_at (table_at timed o.message t) o.tab.metadata 0
  types_at = ap (λ (z : TableLayout). z.types) o.is

  pub names_at : l.names ≡ name_at (table_at timed o.message t) o.tab.metadata 0
  names_at = ap (λ (z : TableLayout). z.names) o.is

  pub rows_at : l.first_row ≡ row_at (table_at timed o.message t) o.tab 0
  rows_at = ap (λ (z : TableLayout). z.first_row) o.is

  pub named : Stands (each third 0 (replicate l.columns name)) m l.names o.tab.metadata.names
  named = names_from o.stands names_at columns_are

  -- and there is room for the types
  pub types_fit : (c : ℕ) → c ≤ l.columns → l.types + c ≤ length m
  types_fit c h =
      omega (arith, columns_are, types_at, type_place_lem place o.tab.metadata 0 (omega arith), stands_fits (names_stand (metadata_stands o.stands)))

  -- a column, a row and a cell past the end
  pub column_past : (c : ℕ) → l.columns ≤ c → no PastEnd 0 ≡ of_table timed m t (λ at b. column_of at b c)
  column_past c h =
      let past : entry o.tab.metadata.types c ≡ no PastEnd 0 = entry_past o.tab.metadata.types c (omega (arith, columns_are)) in
      sym (asked (λ at b. column_of at b c) ∙ rw past)

  pub row_past : (k c : ℕ) → l.rows ≤ k → no PastEnd 0 ≡ of_table timed m t (λ at b. bind (cell_here at b k c) (λ h. ok (spot_of h)))
  row_past k c h =
      let past : entry o.tab.rows k ≡ no PastEnd 0 = entry_past o.tab.rows k (omega (arith, rows_are)) in
      sym (asked (λ at b. bind (cell_here at b k c) (λ h. ok (spot_of h))) ∙ rw past)

  pub cell_past : (k c : ℕ) → k < l.rows → l.columns ≤ c → no PastEnd 0 ≡ of_table timed m t (λ at b. bind (cell_here at b k c) (λ h. ok (spot_of h)))
  cell_past k c h n =
      let w = entry_in o.tab.rows k (omega (arith, rows_are)) in
      let past : entry o.tab.metadata.types c ≡ no PastEnd 0 = entry_past o.tab.metadata.types c (omega (arith, columns_are)) in
      sym (asked (λ at b. bind (cell_here at b k c) (λ h. ok (spot_of h))) ∙ rw (w.1, past))

-- questions about a part of a message, whichever it is
module _ {P : Type 0} (kind : ℕ) (parts : Message → List P) (place : Message → ℕ → ℕ) (m : List ℕ) (i : ℕ) where
  -- a part that was found
  pub record Found {B : Type 0} (g : ℕ → P → B) (x : B) : Type 0 where
    pub message : Message
    pub accepted : read_message kind m ≡ ok message
    pub part : P
    pub there : entry (parts message) i ≡ ok part
    pub is : x ≡ g (place message i) part

  pub found : {B : Type 0} (g : ℕ → P → B) {x : B} → ok x ≡ of_part kind parts place m i (λ at b. ok (g at b)) → Found g x
  found g e =
      let r = bound (read_message kind m) (sym e) in
      let q = bound (entry (parts r.0) i) r.2 in
      record { message = r.0; accepted = r.1; part = q.0; there = q.1; is = sym (ok_same q.2) }

  -- what is asked of it
  pub found_asked : {A B : Type 0} {g : ℕ → P → B} {x : B} (w : Found g x) (ask : ℕ → P → Res A) → of_part kind parts place m i ask ≡ ask (place w.message i) w.part
  found_asked w ask =
      ap (λ (r : Res Message). bind r (λ z. bind (entry (parts z) i) (λ b. ask (place z i) b))) w.accepted
      ∙ ap (λ (r : Res P). bind r (λ b. ask (place w.message i) b)) w.there

  -- one that was not is refused, whatever is asked of it
  pub not_found : {A B : Type 0} (g : ℕ → P → B) (ask : ℕ → P → Res A) {f : Fault} {p : ℕ} → no f p ≡ of_part kind parts place m i (λ at b. ok (g at b)) → no f p ≡ of_part kind parts place m i ask
  not_found {A} {B} g ask e = by_message (read_message kind m) e
    where
      by_part : (r : Res P) (at : ℕ) {f : Fault} {p : ℕ} → no f p ≡ bind r (λ b. ok (g at b)) → no f p ≡ bind r (ask at)
      by_part (ok b) at e = absurd (no_ok e)
      by_part (no h q) at e = retold e

      by_message : (r : Res Message) {f : Fault} {p : ℕ} → no f p ≡ bind r (λ z. bind (entry (parts z) i) (λ b. ok (g (place z i) b)))
          → no f p ≡ bind r (λ z. bind (entry (parts z) i) (λ b. ask (place z i) b))
      by_message (ok z) e = by_part (entry (parts z) i) (place z i) e
      by_message (no h q) e = retold e

  -- a question that follows another's answer
  module _ {A B C : Type 0} (ask : ℕ → P → Res A) (g : A → B) (k : B → Res C) where
    pub follows : bind (of_part kind parts place m i (λ at b. bind (ask at b) (λ a. ok (g a)))) k ≡ of_part kind parts place m i (λ at b. bind (ask at b) (λ a. k (g a)))
    follows = by_message (read_message kind m)
      where
        by_answer : (r : Res A) → bind (bind r (λ a. ok (g a))) k ≡ bind r (λ a. k (g a))
        by_answer (ok a) = refl
        by_answer (no h q) = refl

        by_part : (r : Res P) (at : ℕ) → bind (bind r (λ b. bind (ask at b) (λ a. ok (g a)))) k ≡ bind r (λ b. bind (ask at b) (λ a. k (g a)))
        by_part (ok b) at = by_answer (ask at b)
        by_part (no h q) at = refl

        by_message : (r : Res Message) → bind (bind r (λ z. bind (entry (parts z) i) (λ b. bind (ask (place z i) b) (λ a. ok (g a))))) k
            ≡ bind r (λ z. bind (entry (parts z) i) (λ b. bind (ask (place z i) b) (λ a. k (g a))))
        by_message (ok z) = by_part (entry (parts z) i) (place z i)
        by_message (no h q) = refl

-- a cell's spot that was found: the cell stands there
pub record Spotted (timed : Bool) (m : List ℕ) (t k c : ℕ) (spot : Spot) : Type 0 where
  pub here : Here
  pub there : of_table timed m t (λ at b. bind (cell_here at b k c) (λ h. ok h)) ≡ ok here
  pub is : spot ≡ spot_of here
  pub reads : (value 50 51 here.type).read m here.at ≡ ok (here.value, here.at + length ((value 50 51 here.type).bytes here.value))

module _ (timed : Bool) (m : List ℕ) (t k c : ℕ) where
  -- what is asked of a cell follows from the cell
  asked_here : {A : Type 0} (ask : Here → Res A) → bind (of_table timed m t (λ at b. bind (cell_here at b k c) (λ h. ok h))) ask ≡ of_table timed m t (λ at b. bind (cell_here at b k c) ask)
  asked_here ask = follows (response_layout timed) tables_of (table_at timed) m t (λ at b. cell_here at b k c) (λ h. h) ask

  pub spotted : Bytes m → {spot : Spot} → ok spot ≡ of_table timed m t (λ at b. bind (cell_here at b k c) (λ h. ok (spot_of h))) → Spotted timed m t k c spot
  spotted all e =
      let r = bound (read_message (response_layout timed) m) (sym e) in
      let q = bound (entry (tables_of r.0) t) r.2 in
      let h = bound (cell_here (table_at timed r.0 t) q.0 k c) q.2 in
      let v = bound (entry q.0.rows k) h.1 in
      let y = bound (entry q.0.metadata.types c) v.2 in
      let w = there m (table_stands timed m all r.0 r.1 t q.1) k c (entry_below q.0.rows k v.1) (entry_below q.0.metadata.types c y.1) in
      let same : w.here ≡ h.0 = ok_same (sym w.is ∙ h.1) in
      let type = w.here.type in
      let opened = ap (λ (z : Res Message). bind z (λ y. bind (entry (tables_of y) t) (λ b. bind (cell_here (table_at timed y t) b k c) (λ h. ok h)))) r.1 in
      let found = ap (λ (z : Res Table). bind z (λ b. bind (cell_here (table_at timed r.0 t) b k c) (λ h. ok h))) q.1 in
      record {
        here = w.here;
        there = opened ∙ found ∙ ap (λ (z : Res Here). bind z (λ h. ok h)) w.is;
        is = sym (ok_same h.2) ∙ ap spot_of (sym same);
        reads = stands_read (lawful_value 50 51 type) w.stands;
      }

  pub not_spotted : {A : Type 0} (ask : Here → Res A) {f : Fault} {p : ℕ} → no f p ≡ of_table timed m t (λ at b. bind (cell_here at b k c) (λ h. ok (spot_of h)))
      → no f p ≡ of_table timed m t (λ at b. bind (cell_here at b k c) ask)
  not_spotted ask e = by_cell (of_table timed m t (λ at b. bind (cell_here at b k c) (λ h. ok h))) (e ∙ sym (asked_here (λ h. ok (spot_of h)))) ∙ asked_here ask
    where
      by_cell : (r : Res Here) {f : Fault} {p : ℕ} → no f p ≡ bind r (λ h. ok (spot_of h)) → no f p ≡ bind r ask
      by_cell (ok h) e = absurd (no_ok e)
      by_cell (no g q) e = retold e

  module _ {spot : Spot} (w : Spotted timed m t k c spot) where
    asked_spot : {A : Type 0} (ask : Here → Res A) → ask w.here ≡ of_table timed m t (λ at b. bind (cell_here at b k c) ask)
    asked_spot ask = sym (ap (λ (r : Res Here). bind r ask) w.there) ∙ asked_here ask

    -- what is shown of it, and where it ends
    pub spot_shown : {cell : Cell} → cell ≡ cell_in (shown_as (cell_of spot.wire_type spot.at) ((unruled spot.wire_type).read m spot.at))
        → ok (record { cell = cell; type_at = spot.type_at }) ≡ of_table timed m t (λ at b. bind (cell_here at b k c) (λ h. ok (shown_of h)))
    spot_shown {cell} e =
        let shows : cell ≡ shown_here w.here = e ∙ rw (w.is, unruled_reads m w.here.at 50 51 w.here.type w.reads) in
        rw (w.is, shows) (asked_spot (λ h. ok (shown_of h)))

    pub spot_ends : {«end» : ℕ} → Passes (value 50 51 spot.wire_type) m spot.at «end» → «end» ≡ spot.at + (place_here w.here).1
    spot_ends {«end»} e =
        let passes : Passes (value 50 51 w.here.type) m w.here.at «end» = rw w.is at e in
        rw w.is (passes.ends _ _ w.reads)

    pub spot_placed : {size : ℕ} → size ≡ (place_here w.here).1 → ok (some (spot.at, size)) ≡ of_table timed m t (λ at b. bind (cell_here at b k c) (λ h. ok (some (place_here h))))
    spot_placed e = rw (w.is, e) (asked_spot (λ h. ok (some (place_here h))))

module _ {A : Type 0} where
  pub some_ok : (r : Res A) {a : A} → some a ≡ perhaps r → r ≡ ok a
  some_ok (ok b) {a} e = let same : b ≡ a = cc in ap ok same
  some_ok (no f p) e = absurd (let z : ◌≡◌ {A = ℕ} 0 1 = cc in omega arith)

-- a column that isn't there is past the end
pub none_past : (at : ℕ) (b : Table) (c : ℕ) → none ≡ perhaps (column_of at b c) → column_of at b c ≡ no PastEnd 0
none_past at b c e = by_entries (entry b.metadata.types c) refl (entry b.metadata.names c) refl e
  where
    described : ℕ → Option (List ℕ) → ColumnLayout
    described t n = record { wire_type = t; type_at = column_type_at at b.metadata c; name = name_at at b.metadata c + 4; name_length = length (name_bytes n) }

    by_entries : (x : Res ℕ) → entry b.metadata.types c ≡ x → (y : Res (Option (List ℕ))) → entry b.metadata.names c ≡ y
        → none ≡ perhaps (bind x (λ t. bind y (λ n. ok (described t n)))) → bind x (λ t. bind y (λ n. ok (described t n))) ≡ no PastEnd 0
    by_entries (ok t) h (ok n) g e = absurd (let z : ◌≡◌ {A = ℕ} 0 1 = cc in omega arith)
    by_entries (ok t) h (no f p) g e = retold (entry_missing b.metadata.names c g)
    by_entries (no f p) h y g e = retold (entry_missing b.metadata.types c h)

-- what is told of a value that was found: its part lies in the message and is the value; null is told of null alone
pub record Told (m : List ℕ) (asked : Res Here) (span : Option (ℕ × ℕ)) : Type 0 where
  pub here : Here
  pub there : asked ≡ ok here
  pub fits : (span_in (ok span)).0 + (span_in (ok span)).1 ≤ length m
  pub value : here.value ≡ body (bytes_in m span)

module _ {P : Type 0} (kind : ℕ) (parts : Message → List P) (place : Message → ℕ → ℕ) (m : List ℕ) (i : ℕ) (ask : ℕ → P → Res Here) where
  pub part_told : ((p : Message) → read_message kind m ≡ ok p → (b : P) → entry (parts p) i ≡ ok b → (h : Here) → ask (place p i) b ≡ ok h → Shows m h)
      → (span : Option (ℕ × ℕ)) → of_part kind parts place m i (λ at b. bind (ask at b) (λ h. part_of h.type_at (shown_here h))) ≡ ok span
      → Told m (of_part kind parts place m i ask) span
  part_told shows span e =
      let r = bound (read_message kind m) e in
      let q = bound (entry (parts r.0) i) r.2 in
      let h = bound (ask (place r.0 i) q.0) q.2 in
      let w = shows r.0 r.1 q.0 q.1 h.0 h.1 in
      let stands = part_stands w.length-field w.body_field h.0.type h.0.type_at h.0.value w.stands h.2 in
      let opened = ap (λ (z : Res Message). bind z (λ y. bind (entry (parts y) i) (λ b. ask (place y i) b))) r.1 in
      let there = opened ∙ ap (λ (z : Res P). bind z (ask (place r.0 i))) q.1 ∙ h.1 in
      record { here = h.0; there = there; fits = stands.0; value = stands.1 }
