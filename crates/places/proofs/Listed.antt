-- The field list beside the places: the fields of a table, a type, a name and a cell are listed at the places of specs/Places.antt, with their indices.
use Prim.Native.Nat.{ℕ, zero, suc, ◌+◌, ◌≤◌}
use mathlib.Core.Path.{◌≡◌, refl, sym, ◌∙◌, ap, subst}
use mathlib.Core.Bool.{Bool}
use mathlib.Core.List.{List, [], ◌∷◌, ◌++◌, map, append_assoc, append-nil}
use mathlib.Core.Option.{Option}
use lib.ListN.{length, take, replicate, length-append}
use lib.Seq.{length-take-le}
use native.Mathlib.Omega.{arith}
use native.Mathlib.Nat.{add_assoc, add-zero, zero-add}
use Rattle.format.specs.Result.{ok}
use Rattle.format.specs.Format.{Format, Index, Entry, number, ruled, into, both, nothing, each, room, piece}
use Rattle.format.specs.Value.{value}
use Rattle.format.specs.Message.{first, second, third, list, count, column_type, unlimited, most_items, most_columns, most_row, metadata, row, Table, table, Response, head, response, Content, Message, message, content_of, the_response, response_layout, message_fields, no_index}
use Rattle.format.proofs.Results.{ok_same, no_ok, bound}
use Rattle.places.specs.Places.{tables_of, table_at, column_type_at, name_at, row_at, cell_at}
use Rattle.places.specs.Entries.{Here, entry, cell_here}
use Rattle.places.proofs.Lists.{total, length-total, entry_below}
use Rattle.places.proofs.Layouts.{length-number, length-count, types_total, type_place_lem, name_place_lem, row_place, cell_place, name, columns_0, columns_1, columns_2, contents_1}
use Rattle.places.proofs.Contents.{content_response}
use Rattle.places.proofs.Replies.{tabled, head_size, table_place}

-- some entries stand side by side in a list
pub record Within (es whole : List Entry) : Type 0 where
  pub before : List Entry
  pub after : List Entry
  pub is : before ++ (es ++ after) ≡ whole

pub within_in : {xs ys zs : List Entry} → Within xs ys → Within ys zs → Within xs zs
within_in {xs} p q = record {
  before = q.before ++ p.before;
  after = p.after ++ q.after;
  is = rw (append_assoc q.before, ← append_assoc xs p.after, ← append_assoc p.before (xs ++ p.after), p.is) q.is;
}

module _ {A : Type 0} (f : Format A) {ix : Index} {a : A} {whole : List Entry} where
  pub within_at : {o p : ℕ} → o ≡ p → Within (f.fields ix o a) whole → Within (f.fields ix p a) whole
  within_at e w = rw (← e) w

-- what is made of parts lists those
module _ {A B : Type 0} (f : Format A) (g : A → Format B) (ix : Index) (o : ℕ) (v : A × B) where
  pub in_first : Within (f.fields ix o v.0) ((both f g).fields ix o v)
  unfolding both
  in_first = record { before = []; after = _; is = refl }

  pub in_second : Within ((g v.0).fields ix (o + length (f.bytes v.0)) v.1) ((both f g).fields ix o v)
  unfolding both
  in_second = record { before = f.fields ix o v.0; after = []; is = rw append-nil }

module _ {A : Type 0} (ix : Index) (o : ℕ) where
  pub in_room : (most field : ℕ) (f : Format A) (a : A) → Within (f.fields ix (o + 4) a) ((room most field f).fields ix o a)
  unfolding room
  in_room most field f a = record { before = piece 4 o field ix; after = []; is = rw append-nil }

  pub in_list : (k most field : ℕ) (at-index : ℕ → Index → Index) (f : Format A) (l : List A) → Within ((each at-index 0 (replicate (length l) f)).fields ix (o + k) l) ((list k most field at-index f).fields ix o l)
  unfolding list into
  in_list k most field at-index f l =
      within_at (each at-index 0 (replicate (length l) f)) (ap (λ (x : ℕ). o + x) (length-count k most field (length l)))
      (in_second (count k most field) (λ n. each at-index 0 (replicate n f)) ix o (length l, l))

module _ {A : Type 0} (at-index : ℕ → Index → Index) (ix : Index) where
  -- the i-th of some values
  pub in_entry : (k n : ℕ) (f : Format A) (l : List A) (i o : ℕ) {a : A} → length l ≤ n → entry l i ≡ ok a
      → Within (f.fields (at-index (k + i) ix) (o + total f (take i l)) a) ((each at-index k (replicate n f)).fields ix o l)
  unfolding each nothing total
  in_entry k n f [] i o h e = absurd (no_ok e)
  in_entry k zero f (b ∷ l) i o h e = absurd (omega arith)
  in_entry k (suc n) f (b ∷ l) zero o h e = rw (add-zero k, add-zero o, ← ok_same e) (record { before = []; after = _; is = refl })
  in_entry k (suc n) f (b ∷ l) (suc i) o h e =
      let next : k + suc i ≡ k + 1 + i = omega arith in
      rw (next, ← add_assoc o) (within_in (in_entry (k + 1) n f l i (o + length (f.bytes b)) (omega arith) e) (record { before = f.fields (at-index k ix) o b; after = []; is = rw append-nil }))

  pub in_cell : (k : ℕ) (g : ℕ → Format A) (xs : List ℕ) (l : List A) (i o : ℕ) {x : ℕ} {a : A} → entry xs i ≡ ok x → entry l i ≡ ok a
      → Within ((g x).fields (at-index (k + i) ix) (o + length ((each at-index k (map g xs)).bytes (take i l))) a) ((each at-index k (map g xs)).fields ix o l)
  unfolding each nothing
  in_cell k g [] l i o p q = absurd (no_ok p)
  in_cell k g (y ∷ xs) [] i o p q = absurd (no_ok q)
  in_cell k g (y ∷ xs) (b ∷ l) zero o p q = rw (add-zero k, add-zero o, ← ok_same p, ← ok_same q) (record { before = []; after = _; is = refl })
  in_cell k g (y ∷ xs) (b ∷ l) (suc i) o p q =
      let next : k + suc i ≡ k + 1 + i = omega arith in
      rw (next, length-append, ← add_assoc o) (within_in (in_cell (k + 1) g xs l i (o + length ((g y).bytes b)) p q) (record { before = (g y).fields (at-index k ix) o b; after = []; is = rw append-nil }))

-- a message lists its content, after its length and its version
pub content_in : (layout : ℕ) (r : Message) → Within ((content_of layout r.version).fields no_index 5 r.content) (message_fields layout r)
unfolding message into ruled
content_in layout r =
    let all : Within ((message layout).fields no_index 4 r) (message_fields layout r) = record { before = piece 4 0 1 no_index; after = []; is = rw append-nil } in
    within_in (within_at (content_of layout r.version) (ap (λ (x : ℕ). 4 + x) (length-number 1 2 r.version)) (in_second _ (content_of layout) no_index 4 (r.version, r.content))) all

-- a response lists its tables, from its table count on
module _ (timed : Bool) where
  tabled_in : (ix : Index) (o : ℕ) (p : Response) → Within (tabled.fields ix (o + head_size timed p) p.tables) ((response timed).fields ix o p)
  unfolding response into
  tabled_in ix o p = in_second (head timed) (λ h. tabled) ix o (p.head, p.tables)

  module _ (r : Message) where
    abbrev layout : ℕ
    layout = response_layout timed

    response_in : Within ((response timed).fields no_index 5 (the_response r.content)) (message_fields layout r)
    unfolding into
    response_in = subst (λ (f : Format Content). Within (f.fields no_index 5 r.content) (message_fields layout r)) (content_response timed r.version) (content_in layout r)

    -- table t is listed at its place, with its index
    pub table_listed : (t : ℕ) {b : Table} → entry (tables_of r) t ≡ ok b → Within (table.fields (first t no_index) (table_at timed r t) b) (message_fields layout r)
    table_listed t {b} e =
        let p = the_response r.content in
        let here = in_entry first no_index 0 (length (tables_of r)) table (tables_of r) t (5 + head_size timed p + 2) (omega arith) e in
        let all = within_in (in_list no_index (5 + head_size timed p) 2 most_items 40 first table (tables_of r)) (within_in (tabled_in no_index 5 p) response_in) in
        within_at table (sym (table_place timed r t)) (rw (zero-add t) at (within_in here all))

-- a table lists its columns' types and names, and its rows' cells
module _ (ix : Index) (at : ℕ) (b : Table) where
  contents_in : Within ((both metadata contents_1).fields ix (at + 4) (b.metadata, b.rows)) (table.fields ix at b)
  unfolding table into
  contents_in = in_room ix at unlimited 41 _ b

  columns_in : Within (columns_0.fields ix (at + 4 + 4) (b.metadata.status, (length b.metadata.types, (b.metadata.types, b.metadata.names)))) (table.fields ix at b)
  unfolding metadata into
  columns_in = within_in (within_in (in_room ix (at + 4) unlimited 42 _ b.metadata) (in_first metadata contents_1 ix (at + 4) (b.metadata, b.rows))) contents_in

  typed_in : Within ((columns_2 (length b.metadata.types)).fields ix (at + 4 + 7) (b.metadata.types, b.metadata.names)) (table.fields ix at b)
  typed_in =
      let d = b.metadata in
      let w₁ = within_in (in_second (number 1 43) columns_1 ix (at + 4 + 4) (d.status, (length d.types, (d.types, d.names)))) columns_in in
      let w₂ = within_in (in_second (count 2 most_columns 44) columns_2 ix _ (length d.types, (d.types, d.names))) w₁ in
      within_at (columns_2 (length d.types)) (omega (arith, length-number 1 43 d.status, length-count 2 most_columns 44 (length d.types))) w₂

  pub type_listed : (c : ℕ) {t : ℕ} → entry b.metadata.types c ≡ ok t → Within (piece 1 (column_type_at at b.metadata c) 45 (third c ix)) (table.fields ix at b)
  unfolding ruled number
  type_listed c {t} e =
      let l = b.metadata.types in
      let below = entry_below l c e in
      let size : total (column_type 45) (take c l) ≡ c = types_total (take c l) ∙ length-take-le c l (omega arith) in
      let here = within_in (in_entry third ix 0 (length l) (column_type 45) l c (at + 4 + 7) (omega arith) e)
      (within_in (in_first (each third 0 (replicate (length l) (column_type 45))) (λ t. each third 0 (replicate (length l) name)) ix (at + 4 + 7) (l, b.metadata.names)) typed_in) in
      within_at (column_type 45) {ix = third c ix} {a = t} (omega (arith, type_place_lem at b.metadata c (omega arith))) (rw (zero-add c) at here)

  pub name_listed : (c : ℕ) {n : Option (List ℕ)} → length b.metadata.names ≡ length b.metadata.types → entry b.metadata.names c ≡ ok n
      → Within (name.fields (third c ix) (name_at at b.metadata c) n) (table.fields ix at b)
  name_listed c same e =
      let l = b.metadata.types in
      let ns = b.metadata.names in
      let below = entry_below ns c e in
      let few = length-take-le c ns (omega arith) in
      let start : at + 4 + 7 + length ((each third 0 (replicate (length l) (column_type 45))).bytes l) ≡ at + 11 + length l = omega (arith, length-total third 0 (length l) (column_type 45) l (omega arith), types_total l) in
      let names_in = within_in (in_second (each third 0 (replicate (length l) (column_type 45))) (λ t. each third 0 (replicate (length l) name)) ix (at + 4 + 7) (l, ns)) typed_in in
      let here = within_in (in_entry third ix 0 (length l) name ns c (at + 11 + length l) (omega arith) e) (within_at (each third 0 (replicate (length l) name)) start names_in) in
      within_at name (sym (name_place_lem at b.metadata c (omega arith))) (rw (zero-add c) at here)

  pub cell_listed : (k c : ℕ) {h : Here} → cell_here at b k c ≡ ok h → Within ((value 50 51 h.type).fields (third c (second k ix)) h.at h.value) (table.fields ix at b)
  unfolding row
  cell_listed k c {h} e =
      let l = b.metadata.types in
      let vs = bound (entry b.rows k) e in
      let ty = bound (entry l c) vs.2 in
      let v = bound (entry vs.0 c) ty.2 in
      let rows_at = at + 4 + length (metadata.bytes b.metadata) + 4 in
      let rows_in = within_in (within_in (in_list ix _ 4 unlimited 48 second (row l) b.rows) (in_second metadata contents_1 ix (at + 4) (b.metadata, b.rows))) contents_in in
      let row_in : Within ((row l).fields (second k ix) (row_at at b k) vs.0) (table.fields ix at b)
      = within_at (row l) (sym (row_place at b k)) (rw (zero-add k) at (within_in (in_entry second ix 0 (length b.rows) (row l) b.rows k rows_at (omega arith) vs.1) rows_in)) in
      let cells_in = within_in (in_room (second k ix) (row_at at b k) most_row 49 (each third 0 (map (value 50 51) l)) vs.0) row_in in
      let here = within_in (in_cell third (second k ix) 0 (value 50 51) l vs.0 c (row_at at b k + 4) ty.1 v.1) cells_in in
      let same : record { type = ty.0; type_at = column_type_at at b.metadata c; at = cell_at (row_at at b k) l vs.0 c; value = v.0 } ≡ h = ok_same v.2 in
      rw (← same) (within_at (value 50 51 ty.0) (sym (cell_place (row_at at b k) l vs.0 c)) (rw (zero-add c) at here))
