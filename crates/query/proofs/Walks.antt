-- What each step over an accepted message answers, by what stands at its place.
use Prim.Native.Nat.{ℕ, ◌+◌, ◌≤◌, ◌<◌}
use mathlib.Core.Path.{◌≡◌, refl, sym, ◌∙◌, ap}
use mathlib.Core.List.{List, [], ◌∷◌, map, append-nil}
use lib.ListN.{length, take, drop, replicate, length-map}
use lib.Seq.{length-take-le}
use native.Mathlib.Omega.{arith}
use native.Mathlib.Nat.{add-zero}
use borrow.Author.Tests.{le-leb}
use Rattle.format.specs.Format.{Format, Index, number, nothing, each}
use Rattle.format.specs.Message.{first, Table, metadata, row, table, second, third}
use Rattle.format.proofs.Laws.{lawful_number, lawful_each, all_map, length-each}
use Rattle.format.proofs.Formats.{lawful_value}
use Rattle.scan.specs.Shown.{shown_next, shown, number_in}
use Rattle.scan.proofs.Params.{number_fields}
use Rattle.pass.specs.Passes.{Passes}
use Rattle.places.specs.Stands.{Stands}
use Rattle.places.specs.Places.{name_bytes, column_type_at, name_at, row_at, cell_at}
use Rattle.places.specs.Entries.{cell_here}
use Rattle.places.proofs.Stands.{stands_read, stands_fits, stands_at_lem}
use Rattle.places.proofs.Lists.{Sized, sized, total, jump_lands, entry_in, stands_entry, stands_front, front_bytes}
use Rattle.places.proofs.Layouts.{length-number, status_stands, columns_stand, types_stand, names_stand, metadata_stands, row_count_stands, rows_stand, type_place_lem, name_place_lem, row_place, sized_table, sized_metadata, sized_row, cells_stand, types_part, cell_place, sized_name, names_all, name, type_stands, name_length-stands}
use Rattle.query.specs.Shown.{past_of, spot_of}
use Rattle.query.specs.Answers.{layout_of, column_of}
use Rattle.query.specs.declared.TableLayout.{TableLayout}
use Rattle.query.specs.declared.Spot.{Spot}
use Rattle.query.specs.declared.ColumnLayout.{ColumnLayout}
use Rattle.format.specs.Result.{ok, bind}
use Rattle.format.specs.Value.{value}

module _ (m : List ℕ) where
  -- past n bytes
  pub after_is : (n p : ℕ) {r q : ℕ} → r ≡ past_of (shown_next ((number n 0).read m p)) → p ≡ q → q + n ≤ length m → r ≡ q + n
  unfolding number
  after_is n p {r} {q} e same fit = e ∙ rw (same, le-leb (q + n) (length m) fit)

  -- past the first i of some things that begin with their length
  pub over_is : {A : Type 0} {f : Format A} (z : Sized f) (at-index : ℕ → Index → Index) (n i : ℕ) (l : List A) (p : ℕ) {r q : ℕ}
      → r ≡ past_of (shown_next ((each first 0 (replicate i sized)).read m p)) → p ≡ q → i ≤ n → Stands (each at-index 0 (replicate n f)) m q l → r ≡ q + total f (take i l)
  over_is z at-index n i l p e same h d = e ∙ rw (same, jump_lands z at-index n i l h d)

  -- past one
  pub over_one : {A : Type 0} {f : Format A} (z : Sized f) {a : A} (p : ℕ) {r q : ℕ}
      → r ≡ past_of (shown_next ((each first 0 (replicate 1 sized)).read m p)) → p ≡ q → Stands f m q a → r ≡ q + length (f.bytes a)
  unfolding each nothing total
  over_one {f = f} z {a} p {r} {q} e same d =
      let alone : Stands (each first 0 (replicate 1 f)) m q (a ∷ []) = record { good = (d.good, refl); before = d.before; after = d.after; whole = rw (append-nil (f.bytes a)) d.whole; start = d.start } in
      over_is z first 1 1 (a ∷ []) p e same (omega arith) alone ∙ rw add-zero

  -- the number there
  pub count_is : (k field p : ℕ) {r q n : ℕ} → r ≡ number_in (shown ((number k 0).read m p)) → p ≡ q → Stands (number k field) m q n → r ≡ n
  count_is k field p {r} {q} e same d = e ∙ rw (same, ← number_fields m q k field, stands_read (lawful_number k field) d)

  pub byte_is : (field p : ℕ) {r q n : ℕ} → r ≡ number_in (shown ((number 1 0).read m p)) → p ≡ q → Stands (number 1 field) m q n → r ≡ n
  byte_is field p {r} {q} e same d = e ∙ rw (same, ← number_fields m q 1 field, stands_read (lawful_number 1 field) d)

-- the layout of a table, step by step
module _ (m : List ℕ) {at : ℕ} {b : Table} (d : Stands table m at b) where
  same_layout : {e₁ e₂ s₁ s₂ c₁ c₂ k₁ k₂ t₁ t₂ n₁ n₂ f₁ f₂ : ℕ} → e₁ ≡ e₂ → s₁ ≡ s₂ → c₁ ≡ c₂ → k₁ ≡ k₂ → t₁ ≡ t₂ → n₁ ≡ n₂ → f₁ ≡ f₂
      → ◌≡◌ {A = TableLayout} (record { status = s₁; columns = c₁; rows = k₁; at = at; «end» = e₁; types = t₁; names = n₁; first_row = f₁ })
      (record { status = s₂; columns = c₂; rows = k₂; at = at; «end» = e₂; types = t₂; names = n₂; first_row = f₂ })
  same_layout e s c k t n f = rw (e, s, c, k, t, n, f)

  pub layout_is : {«end» inner described status counted columns types names row_count rows first-row : ℕ}
      → «end» ≡ past_of (shown_next ((each first 0 (replicate 1 sized)).read m at))
      → inner ≡ past_of (shown_next ((number 4 0).read m at))
      → described ≡ past_of (shown_next ((number 4 0).read m inner))
      → status ≡ number_in (shown ((number 1 0).read m described))
      → counted ≡ past_of (shown_next ((number 1 0).read m described))
      → columns ≡ number_in (shown ((number 2 0).read m counted))
      → types ≡ past_of (shown_next ((number 2 0).read m counted))
      → names ≡ past_of (shown_next ((number columns 0).read m types))
      → row_count ≡ past_of (shown_next ((each first 0 (replicate 1 sized)).read m inner))
      → rows ≡ number_in (shown ((number 4 0).read m row_count))
      → first-row ≡ past_of (shown_next ((number 4 0).read m row_count))
      → ◌≡◌ {A = TableLayout} (record { status = status; columns = columns; rows = rows; at = at; «end» = «end»; types = types; names = names; first_row = first-row }) (layout_of at b)
  unfolding total
  layout_is {«end»} {inner} {described} {status} {counted} {columns} {types} {names} {row_count} {rows} {first-row} e₁ e₂ e₃ e₄ e₅ e₆ e₇ e₈ e₉ e₁₀ e₁₁ =
      let md = metadata_stands d in
      let fit = stands_fits (row_count_stands d) in
      let size₁ = length-number 4 48 (length b.rows) in
      let fits-names = stands_fits (names_stand md) in
      let inner_is : inner ≡ at + 4 = after_is m 4 at e₂ refl (omega arith) in
      let described_is : described ≡ at + 4 + 4 = after_is m 4 inner e₃ inner_is (omega arith) in
      let counted_is : counted ≡ at + 4 + 4 + 1 = after_is m 1 described e₅ described_is (omega arith) in
      let columns-is : columns ≡ length b.metadata.types = count_is m 2 44 counted e₆ (omega arith) (columns_stand md) in
      let types-is : types ≡ at + 4 + 4 + 1 + 2 = after_is m 2 counted e₇ counted_is (omega arith) in
      let names-is : names ≡ at + 4 + 4 + 1 + 2 + columns = after_is m columns types e₈ types-is (omega arith) in
      let row-count-is : row_count ≡ at + 4 + length (metadata.bytes b.metadata) = over_one m sized_metadata inner e₉ inner_is md in
      same_layout (over_one m sized_table at e₁ refl d)
      (byte_is m 43 described e₄ described_is (status_stands md))
      columns-is
      (count_is m 4 48 row_count e₁₀ row-count-is (row_count_stands d))
      (omega (arith, type_place_lem at b.metadata 0 (omega arith)))
      (omega (arith, name_place_lem at b.metadata 0 (omega arith)))
      (after_is m 4 row_count e₁₁ row-count-is (omega arith) ∙ omega (arith, row_place at b 0))

-- the place of a cell and its type, step by step
module _ (m : List ℕ) {at : ℕ} {b : Table} (d : Stands table m at b) (k c : ℕ) (in_rows : k < length b.rows) (in-types : c < length b.metadata.types) where
  same_spot : {w₁ w₂ p₁ p₂ q₁ q₂ : ℕ} → w₁ ≡ w₂ → p₁ ≡ p₂ → q₁ ≡ q₂ → ◌≡◌ {A = Spot} (record { wire_type = w₁; type_at = p₁; at = q₁ }) (record { wire_type = w₂; type_at = p₂; at = q₂ })
  same_spot w p q = rw (w, p, q)

  pub spot_is : (types rows : ℕ) {type_at wire-type row_start cells next : ℕ} → types ≡ column_type_at at b.metadata 0 → rows ≡ row_at at b 0
      → type_at ≡ past_of (shown_next ((number c 0).read m types))
      → wire-type ≡ number_in (shown ((number 1 0).read m type_at))
      → row_start ≡ past_of (shown_next ((each first 0 (replicate k sized)).read m rows))
      → cells ≡ past_of (shown_next ((number 4 0).read m row_start))
      → Passes (each third 0 (map (value 50 51) (take c (drop types m)))) m cells next
      → ok (record { wire_type = wire-type; type_at = type_at; at = next }) ≡ bind (cell_here at b k c) (λ h. ok (spot_of h))
  unfolding total
  spot_is types rows {type_at} {wire-type} {row_start} {cells} {next} t₀ r₀ e₁ e₂ e₃ e₄ e₅ =
      let md = metadata_stands d in
      let l = b.metadata.types in
      let vs = entry_in b.rows k in_rows in
      let ty = entry_in l c in-types in
      let fit = stands_fits (names_stand md) in
      let types-is : types ≡ at + 4 + 7 = omega (arith, type_place_lem at b.metadata 0 (omega arith)) in
      let type-at-is : type_at ≡ at + 4 + 7 + c = after_is m c types e₁ types-is (omega arith) in
      let typed = type_stands md c in-types ty.1 in
      let rows_at : rows ≡ at + 4 + length (metadata.bytes b.metadata) + 4 = omega (arith, row_place at b 0) in
      let row_is : row_start ≡ row_at at b k = over_is m (sized_row l) second (length b.rows) k b.rows rows e₃ rows_at (omega arith) (rows_stand d) ∙ sym (row_place at b k) in
      let here : Stands (row l) m (row_at at b k) vs.0 = stands_at_lem (sym (row_place at b k)) (stands_entry second 0 (length b.rows) (row l) b.rows k (rows_stand d) vs.1) in
      let inner = cells_stand l here in
      let inner-fits = stands_fits inner in
      let all : length vs.0 ≡ length l = length-each third 0 (map (value 50 51) l) vs.0 inner.good ∙ length-map l (value 50 51) in
      let v = entry_in vs.0 c (omega arith) in
      let cells_is : cells ≡ row_at at b k + 4 = after_is m 4 row_start e₄ row_is (omega arith) in
      let part : take c (drop types m) ≡ take c l = rw types-is (types_part (length l) l c (omega arith) (types_stand md)) in
      let first-cells = stands_front third (value 50 51) 0 l vs.0 c inner in
      let law = lawful_each third 0 (map (value 50 51) (take c l)) (all_map (value 50 51) (lawful_value 50 51) (take c l)) in
      let passes : Passes (each third 0 (map (value 50 51) (take c l))) m (row_at at b k + 4) next = rw (part, cells_is) at e₅ in
      let next_is : next ≡ cell_at (row_at at b k) l vs.0 c
      = passes.ends _ _ (stands_read law first-cells) ∙ rw (cell_place (row_at at b k) l vs.0 c, front_bytes third (value 50 51) 0 l vs.0 c) in
      rw (vs.1, ty.1, v.1) (ap ok (same_spot (byte_is m 45 type_at e₂ type-at-is typed) (omega (arith, type_place_lem at b.metadata c (omega arith))) next_is))

-- a column, step by step
module _ (m : List ℕ) {at : ℕ} {b : Table} (d : Stands table m at b) (c : ℕ) (in-types : c < length b.metadata.types) where
  same_column : {w₁ w₂ p₁ p₂ q₁ q₂ n₁ n₂ : ℕ} → w₁ ≡ w₂ → p₁ ≡ p₂ → q₁ ≡ q₂ → n₁ ≡ n₂
      → ◌≡◌ {A = ColumnLayout} (record { wire_type = w₁; type_at = p₁; name = q₁; name_length = n₁ }) (record { wire_type = w₂; type_at = p₂; name = q₂; name_length = n₂ })
  same_column w p q n = rw (w, p, q, n)

  pub column_is : (types names : ℕ) {type_at wire-type named name-length next : ℕ} → types ≡ column_type_at at b.metadata 0 → names ≡ name_at at b.metadata 0
      → type_at ≡ past_of (shown_next ((number c 0).read m types))
      → wire-type ≡ number_in (shown ((number 1 0).read m type_at))
      → named ≡ past_of (shown_next ((each first 0 (replicate c sized)).read m names))
      → name-length ≡ number_in (shown ((number 4 0).read m named))
      → next ≡ past_of (shown_next ((number 4 0).read m named))
      → ok (record { wire_type = wire-type; type_at = type_at; name = next; name_length = name-length }) ≡ column_of at b c
  unfolding total
  column_is types names {type_at} {wire-type} {named} {name-length} {next} t₀ n₀ e₁ e₂ e₃ e₄ e₅ =
      let md = metadata_stands d in
      let l = b.metadata.types in
      let all = names_all md in
      let ty = entry_in l c in-types in
      let nm = entry_in b.metadata.names c (omega arith) in
      let fit = stands_fits (names_stand md) in
      let types-is : types ≡ at + 4 + 7 = omega (arith, type_place_lem at b.metadata 0 (omega arith)) in
      let type-at-is : type_at ≡ at + 4 + 7 + c = after_is m c types e₁ types-is (omega arith) in
      let typed = type_stands md c in-types ty.1 in
      let few : length (take c b.metadata.names) ≤ length l = omega (arith, length-take-le c b.metadata.names (omega arith)) in
      let names_at : names ≡ at + 4 + 7 + length l = omega (arith, name_place_lem at b.metadata 0 (omega arith)) in
      let named_is : named ≡ name_at at b.metadata c = over_is m sized_name third (length l) c b.metadata.names names e₃ names_at (omega arith) (names_stand md) ∙ omega (arith, name_place_lem at b.metadata c few) in
      let here : Stands name m (name_at at b.metadata c) nm.0 = stands_at_lem (omega (arith, name_place_lem at b.metadata c few)) (stands_entry third 0 (length l) name b.metadata.names c (names_stand md) nm.1) in
      let counted = name_length-stands nm.0 here in
      let counted-fits = stands_fits counted in
      rw (ty.1, nm.1) (ap ok (same_column (byte_is m 45 type_at e₂ type-at-is typed) (omega (arith, type_place_lem at b.metadata c (omega arith)))
      (after_is m 4 named e₅ named_is (omega (arith, length-number 4 46 (length (name_bytes nm.0))))) (count_is m 4 46 named e₄ named_is counted)))
