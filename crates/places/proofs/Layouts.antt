-- The parts of a table, of its metadata and of a row stand at the places that specs/Places.antt gives them.
use Prim.Native.Nat.{ℕ, zero, suc, ◌+◌, ◌≤◌, ◌<◌}
use mathlib.Core.Path.{◌≡◌, refl, sym, ◌∙◌, ap}
use mathlib.Core.Bool.{false, false≢true}
use mathlib.Core.List.{List, [], ◌∷◌, ◌++◌, map, append_assoc}
use mathlib.Core.Option.{Option, some, none}
use lib.ListN.{length, take, drop, replicate, length-append, length-replicate}
use lib.Seq.{length-take-le, take-append-le, drop_at}
use lib.Dec.{leb, ltb}
use native.Mathlib.Omega.{arith}
use Rattle.format.specs.declared.Fault.TheVariants.{Limit, Negative, WireType}
use Rattle.format.specs.Result.{ok}
use Rattle.format.specs.Number.{num_bytes, half}
use Rattle.format.specs.Format.{Format, Index, number, ruled, into, both, nothing, each, counted, room}
use Rattle.format.specs.Value.{Value, value, string, ascii, is_column}
use Rattle.format.specs.Message.{second, third, count, list, column_type, unlimited, most_columns, most_row, Metadata, metadata, row, Table, table}
use Rattle.format.proofs.Numbers.{length-num_bytes, Bytes-drop}
use Rattle.format.proofs.Laws.{Lawful, length-each}
use Rattle.format.proofs.Formats.{lawful_metadata, lawful_row, lawful_table}
use Rattle.places.specs.Stands.{Stands}
use Rattle.places.specs.Places.{column_type_at, name_at, row_at, cell_at, name_bytes}
use Rattle.places.specs.Entries.{entry}
use Rattle.places.proofs.Stands.{stands_at_lem, stands_ruled, stands_into, stands_first, stands_second, stands_inner}
use Rattle.places.proofs.Lists.{total, length-total, stands_entry, Sized}

module _ {s : List ℕ} {at n : ℕ} where
  pub stands_count : (k most field : ℕ) → Stands (count k most field) s at n → Stands (number k field) s at n
  stands_count k most field d = stands_ruled (λ n. ltb n (half k)) Negative (stands_ruled (λ n. leb n most) Limit d)

pub length-number : (k field n : ℕ) → length ((number k field).bytes n) ≡ k
unfolding number
length-number k field n = length-num_bytes k n

pub length-count : (k most field n : ℕ) → length ((count k most field).bytes n) ≡ k
unfolding number ruled
length-count k most field n = length-num_bytes k n

-- a counted list: its count, and then its values
module _ {A : Type 0} (k most field : ℕ) (at-index : ℕ → Index → Index) (f : Format A) where
  pub length-list : (l : List A) → length ((list k most field at-index f).bytes l) ≡ k + total f l
  unfolding list into both
  length-list l = rw (length-append, length-count, length-total at-index 0 (length l) f l (omega arith))

  module _ {s : List ℕ} {at : ℕ} {l : List A} (d : Stands (list k most field at-index f) s at l) where
    pub list_count : Stands (number k field) s at (length l)
    unfolding list
    list_count = stands_count k most field (stands_first (count k most field) (λ n. each at-index 0 (replicate n f)) (stands_into _ _ d))

    pub list_values : Stands (each at-index 0 (replicate (length l) f)) s (at + k) l
    unfolding list
    list_values = stands_at_lem (ap (λ (x : ℕ). at + x) (length-count k most field (length l))) (stands_second (count k most field) (λ n. each at-index 0 (replicate n f)) (stands_into _ _ d))

-- a column's name, and the columns after each part
abbrev pub name : Format (Option (List ℕ))
name = string false ascii 46 47

abbrev pub columns_2 : ℕ → Format (List ℕ × List (Option (List ℕ)))
columns_2 n = both (each third 0 (replicate n (column_type 45))) (λ t. each third 0 (replicate n name))

abbrev pub columns_1 : ℕ → Format (ℕ × (List ℕ × List (Option (List ℕ))))
columns_1 u = both (count 2 most_columns 44) columns_2

abbrev pub columns_0 : Format (ℕ × (ℕ × (List ℕ × List (Option (List ℕ)))))
columns_0 = both (number 1 43) columns_1

pub types_total : (l : List ℕ) → total (column_type 45) l ≡ length l
unfolding total number ruled
types_total [] = refl
types_total (t ∷ l) = rw (length-num_bytes, types_total l) (omega arith)

-- the bytes of a metadata: its length, status, count, and then so much of types and names
pub length-metadata : (d : Metadata) → length d.names ≤ length d.types → length (metadata.bytes d) ≡ 7 + length d.types + total name d.names
unfolding metadata room into both
length-metadata d h =
    rw (
      length-append,
      length-num_bytes,
      length-append,
      length-number,
      length-append,
      length-count,
      length-append,
      length-total third 0 (length d.types) (column_type 45) d.types (omega arith),
      length-total third 0 (length d.types) name d.names h,
      types_total d.types,
    ) (omega arith)

module _ {s : List ℕ} {at : ℕ} {d : Metadata} (stands : Stands metadata s at d) where
  described : Stands columns_0 s (at + 4) (d.status, (length d.types, (d.types, d.names)))
  unfolding metadata
  described = stands_into _ _ (stands_inner unlimited 42 stands)

  pub status_stands : Stands (number 1 43) s (at + 4) d.status
  status_stands = stands_first (number 1 43) columns_1 described

  counted_on : Stands (columns_1 d.status) s (at + 5) (length d.types, (d.types, d.names))
  counted_on = stands_at_lem (omega (arith, length-number 1 43 d.status)) (stands_second (number 1 43) columns_1 described)

  pub columns_stand : Stands (number 2 44) s (at + 5) (length d.types)
  columns_stand = stands_count 2 most_columns 44 (stands_first (count 2 most_columns 44) columns_2 counted_on)

  typed_on : Stands (columns_2 (length d.types)) s (at + 7) (d.types, d.names)
  typed_on = stands_at_lem (omega (arith, length-count 2 most_columns 44 (length d.types))) (stands_second (count 2 most_columns 44) columns_2 counted_on)

  pub types_stand : Stands (each third 0 (replicate (length d.types) (column_type 45))) s (at + 7) d.types
  types_stand = stands_first (each third 0 (replicate (length d.types) (column_type 45))) (λ t. each third 0 (replicate (length d.types) name)) typed_on

  pub names_stand : Stands (each third 0 (replicate (length d.types) name)) s (at + 7 + length d.types) d.names
  names_stand =
      stands_at_lem (ap (λ (x : ℕ). at + 7 + x) (length-total third 0 (length d.types) (column_type 45) d.types (omega arith) ∙ types_total d.types))
      (stands_second (each third 0 (replicate (length d.types) (column_type 45))) (λ t. each third 0 (replicate (length d.types) name)) typed_on)

  pub names_all : length d.names ≡ length d.types
  names_all = length-each third 0 (replicate (length d.types) name) d.names names_stand.good ∙ length-replicate (length d.types) name

-- a table, after its length
abbrev pub contents_1 : Metadata → Format (List (List Value))
contents_1 d = list 4 unlimited 48 second (row d.types)

module _ {s : List ℕ} {at : ℕ} {b : Table} (stands : Stands table s at b) where
  contents : Stands (both metadata contents_1) s (at + 4) (b.metadata, b.rows)
  unfolding table
  contents = stands_into _ _ (stands_inner unlimited 41 stands)

  pub metadata_stands : Stands metadata s (at + 4) b.metadata
  metadata_stands = stands_first metadata contents_1 contents

  rows_on : Stands (contents_1 b.metadata) s (at + 4 + length (metadata.bytes b.metadata)) b.rows
  rows_on = stands_second metadata contents_1 contents

  pub row_count_stands : Stands (number 4 48) s (at + 4 + length (metadata.bytes b.metadata)) (length b.rows)
  row_count_stands = list_count 4 unlimited 48 second (row b.metadata.types) rows_on

  pub rows_stand : Stands (each second 0 (replicate (length b.rows) (row b.metadata.types))) s (at + 4 + length (metadata.bytes b.metadata) + 4) b.rows
  rows_stand = list_values 4 unlimited 48 second (row b.metadata.types) rows_on

module _ {s : List ℕ} {at : ℕ} (types : List ℕ) {l : List Value} where
  pub cells_stand : Stands (row types) s at l → Stands (each third 0 (map (value 50 51) types)) s (at + 4) l
  unfolding row
  cells_stand d = stands_inner most_row 49 d

-- the places, as sums
pub type_place_lem : (at : ℕ) (d : Metadata) (c : ℕ) → c ≤ length d.types → column_type_at at d c ≡ at + 11 + c
unfolding column_type_at total
type_place_lem at d c h =
    let size = length-take-le c d.types h in
    omega (arith, length-metadata (record { status = d.status; types = take c d.types; names = [] }) (omega arith))

pub name_place_lem : (at : ℕ) (d : Metadata) (c : ℕ) → length (take c d.names) ≤ length d.types → name_at at d c ≡ at + 11 + length d.types + total name (take c d.names)
unfolding name_at
name_place_lem at d c h = omega (arith, length-metadata (record { status = d.status; types = d.types; names = take c d.names }) h)

pub row_place : (at : ℕ) (b : Table) (k : ℕ) → row_at at b k ≡ at + 4 + length (metadata.bytes b.metadata) + 4 + total (row b.metadata.types) (take k b.rows)
unfolding row_at table room into both
row_place at b k =
    rw (length-append, length-num_bytes, length-append, length-list 4 unlimited 48 second (row b.metadata.types) (take k b.rows)) (omega arith)

pub cell_place : (at : ℕ) (types : List ℕ) (cells : List Value) (c : ℕ) → cell_at at types cells c ≡ at + 4 + length ((each third 0 (map (value 50 51) types)).bytes (take c cells))
unfolding cell_at row room
cell_place at types cells c = rw (length-append, length-num_bytes) (omega arith)

-- what begins with its length
module _ {A : Type 0} (most field : ℕ) (f : Format A) where
  sized_room : Lawful (room most field f) → most ≤ unlimited → Sized (room most field f)
  unfolding room
  sized_room l h = record {
    inner = f.bytes;
    few = λ a g. omega (arith, g.1);
    fits = λ a g. rw (drop_at (num_bytes 4 (length (f.bytes a))) (f.bytes a) 4 (length-num_bytes 4 (length (f.bytes a)))) at (Bytes-drop 4 (num_bytes 4 (length (f.bytes a)) ++ f.bytes a) (l.fits a g));
    same = λ a g. refl;
  }

pub sized_table : Sized table
unfolding table
sized_table = sized_room unlimited 41 _ lawful_table (omega arith)

pub sized_metadata : Sized metadata
unfolding metadata
sized_metadata = sized_room unlimited 42 _ lawful_metadata (omega arith)

pub sized_row : (types : List ℕ) → Sized (row types)
unfolding row
sized_row types = sized_room most_row 49 _ (lawful_row types) (omega arith)

pub sized_name : Sized name
unfolding counted
sized_name = record {
  inner = name_bytes;
  few = elim [ none ↦ λ g. absurd (false≢true g) | some bs ↦ λ g. omega (arith, g.0) ];
  fits = elim [ none ↦ λ g. absurd (false≢true g) | some bs ↦ λ g. g.1 ];
  same = elim [ none ↦ λ g. absurd (false≢true g) | some bs ↦ λ g. refl ];
}

-- a type's byte is the type
pub one_byte : (n : ℕ) → n < 256 → num_bytes 1 n ≡ n ∷ []
unfolding num_bytes
one_byte n h = ap (λ (x : ℕ). x ∷ []) (omega arith)

types_bytes : (k n : ℕ) (l : List ℕ) → (each third k (replicate n (column_type 45))).Good l → (each third k (replicate n (column_type 45))).bytes l ≡ l
unfolding each nothing ruled number
types_bytes k zero l g = sym g
types_bytes k (suc n) [] g = refl
types_bytes k (suc n) (t ∷ l) g = rw (one_byte t g.0.0, types_bytes (k + 1) n l g.1)

-- the types are that part of the message
pub types_part : {s : List ℕ} {at : ℕ} (n : ℕ) (l : List ℕ) (c : ℕ) → c ≤ length l → Stands (each third 0 (replicate n (column_type 45))) s at l → take c (drop at s) ≡ take c l
types_part {s} {at} n l c h d =
    let whole : d.before ++ (l ++ d.after) ≡ s = rw (types_bytes 0 n l d.good) at d.whole in
    rw (← whole, drop_at d.before (l ++ d.after) at d.start, take-append-le)

-- a column's type, and the length of its name
module _ {m : List ℕ} {at : ℕ} {d : Metadata} (md : Stands metadata m at d) where
  pub type_stands : (c : ℕ) {t : ℕ} → c < length d.types → entry d.types c ≡ ok t → Stands (number 1 45) m (at + 7 + c) t
  type_stands c h e =
      let size : total (column_type 45) (take c d.types) ≡ c = types_total (take c d.types) ∙ length-take-le c d.types (omega arith) in
      stands_ruled is_column WireType (stands_at_lem (ap (λ (x : ℕ). at + 7 + x) size) (stands_entry third 0 (length d.types) (column_type 45) d.types c (types_stand md) e))

pub name_length-stands : {m : List ℕ} {at : ℕ} (n : Option (List ℕ)) → Stands name m at n → Stands (number 4 46) m at (length (name_bytes n))
unfolding counted number
name_length-stands none d = absurd (false≢true d.good)
name_length-stands (some bs) d =
    record { good = omega (arith, d.good.0); before = d.before; after = bs ++ d.after; whole = rw (← append_assoc (num_bytes 4 (length bs))) d.whole; start = d.start }

-- the names of a table, by the place of the first and their number
pub names_from : {m : List ℕ} {at : ℕ} {b : Table} → Stands table m at b → {names count : ℕ} → names ≡ name_at at b.metadata 0 → count ≡ length b.metadata.types
    → Stands (each third 0 (replicate count name)) m names b.metadata.names
unfolding total
names_from {at = at} {b = b} d {names} e n =
    let at-is : at + 4 + 7 + length b.metadata.types ≡ names = omega (arith, name_place_lem at b.metadata 0 (omega arith)) in
    rw n (stands_at_lem at-is (names_stand (metadata_stands d)))
