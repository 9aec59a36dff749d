-- One turn of the search for a column of a type and name: the types stand side by side, and each name ends where the next begins.
use Prim.Native.Nat.{ℕ, zero, suc, ◌+◌, ◌-◌, ◌≤◌, ◌<◌}
use mathlib.Core.Path.{◌≡◌, sym, ◌∙◌, ap}
use mathlib.Core.Bool.{Bool, true, false, ◌&&◌}
use mathlib.Core.List.{List, [], ◌∷◌}
use mathlib.Core.Option.{Option, some, none}
use lib.ListN.{length, take, drop, length-append}
use lib.Seq.{length-take-le}
use lib.Dec.{eqb}
use native.Mathlib.Numerals.{add-one}
use native.Mathlib.Omega.{arith}
use Rattle.format.specs.declared.Fault.{Fault}
use Rattle.format.specs.Result.{ok, no}
use Rattle.format.specs.Format.{Format, number, counted}
use Rattle.format.specs.Message.{third, unlimited, Metadata, metadata, Table, table}
use Rattle.format.proofs.Results.{no_ok, ok_same}
use Rattle.format.proofs.Numbers.{length-num_bytes}
use Rattle.scan.specs.Shown.{shown, number_in}
use Rattle.scan.proofs.Counted.{Here}
use Rattle.places.specs.Stands.{Stands}
use Rattle.places.specs.Places.{table_at, column_type_at, name_at}
use Rattle.places.specs.Entries.{entry}
use Rattle.places.proofs.Stands.{stands_fits, stands_at_lem}
use Rattle.places.proofs.Lists.{total, entry_in, stands_entry, sized}
use Rattle.places.proofs.Layouts.{name, metadata_stands, names_stand, names_all, type_place_lem, name_place_lem, type_stands}
use Rattle.query.specs.declared.TableLayout.{TableLayout}
use Rattle.query.specs.declared.ColumnLayout.{ColumnLayout}
use Rattle.query.specs.Answers.{same, column_of}
use Rattle.query.proofs.Names.{name_body, name_here}
use Rattle.query.proofs.Opened.{Opened}
use Rattle.query.proofs.Walks.{byte_is}
use Rattle.cards.specs.Card.{a_card}
use Rattle.cards.specs.Answers.{fits}
use Rattle.cards.specs.Reasons.{first_from, stands_at}
use Rattle.cards.specs.Shown.{Laid}
use Rattle.cards.proofs.Columns.{Told, told}

-- ---- the first number of some that passes a test, one by one
module _ (test : ℕ → Bool) (i n : ℕ) where
  pub first_here : i < n → test i ≡ true → first_from test i (n - i) ≡ some i
  unfolding first_from
  first_here below is = let more : n - i ≡ suc (n - (i + 1)) = omega arith in rw (more, is)

  pub first_later : i < n → test i ≡ false → first_from test i (n - i) ≡ first_from test (i + 1) (n - (i + 1))
  unfolding first_from
  first_later below not = let more : n - i ≡ suc (n - (i + 1)) = omega arith in rw (more, not)

  pub first_none : n ≤ i → first_from test i (n - i) ≡ none
  unfolding first_from
  first_none past = let no_more : n - i ≡ 0 = omega arith in rw no_more

module _ {A : Type 0} (f : Format A) where
  -- how long one more of a list is
  total_next : (l : List A) (i : ℕ) {a : A} → entry l i ≡ ok a → total f (take (suc i) l) ≡ total f (take i l) + length (f.bytes a)
  unfolding total
  total_next [] i e = absurd (no_ok e)
  total_next (b ∷ l) zero e = omega (arith, ap (λ (z : A). length (f.bytes z)) (ok_same e))
  total_next (b ∷ l) (suc i) e = omega (arith, total_next l i e)

-- how long a name is, its length field included
name_size : {n : Option (List ℕ)} {bs : List ℕ} → n ≡ some bs → length (name.bytes n) ≡ 4 + length bs
unfolding counted
name_size {n} {bs} e = ap (λ (z : Option (List ℕ)). length (name.bytes z)) e ∙ rw (length-append, length-num_bytes)

module _ {m : List ℕ} {l : TableLayout} (w : Laid m l) where
  abbrev d : Metadata
  d = w.tab.metadata

  described : Stands metadata m (w.at + 4) d
  described = metadata_stands w.stands

  pub columns_are : l.columns ≡ length d.types
  columns_are = ap (λ (z : TableLayout). z.columns) w.is

  pub types_at : l.types ≡ column_type_at w.at d 0
  types_at = ap (λ (z : TableLayout). z.types) w.is

  pub names_at : l.names ≡ name_at w.at d 0
  names_at = ap (λ (z : TableLayout). z.names) w.is

  -- the types are in the message
  pub types_fit : l.types + l.columns ≤ length m
  types_fit = omega (arith, columns_are, types_at, type_place_lem w.at d 0 (omega arith), stands_fits (names_stand described))

  -- a type by its place
  type_read : (i : ℕ) {t r : ℕ} → i < l.columns → entry d.types i ≡ ok t → r ≡ number_in (shown ((number 1 0).read m (l.types + i))) → r ≡ t
  type_read i below is e =
      let few = columns_are in
      let place : l.types + i ≡ w.at + 4 + 7 + i = omega (arith, types_at, type_place_lem w.at d 0 (omega arith)) in
      byte_is m 45 (l.types + i) e place (type_stands described i (omega arith) is)

  module _ (i at : ℕ) (below : i < l.columns) (place : at ≡ name_at w.at d i) where
    -- the name at this turn
    pub record Named : Type 0 where
      pub bytes : List ℕ
      pub is : entry d.names i ≡ ok (some bytes)
      pub reads : sized.read m at ≡ ok (some bytes, at + (4 + length bytes))
      pub next : name_at w.at d (i + 1) ≡ at + (4 + length bytes)

    pub named : Named
    named =
        let many = columns_are in
        let all = names_all described in
        let n = entry_in d.names i (omega arith) in
        let few : (k : ℕ) → k ≤ length d.names → length (take k d.names) ≤ length d.types = λ k h. omega (arith, length-take-le k d.names h) in
        let here-is = name_place_lem w.at d i (few i (omega arith)) in
        let next_is = name_place_lem w.at d (suc i) (few (suc i) (omega arith)) in
        let here : Stands name m at n.0 = stands_at_lem (omega arith) (stands_entry third 0 (length d.types) name d.names i (names_stand described) n.1) in
        let b = name_body n.0 here in
        let more = total_next name d.names i n.1 in
        let next : name_at w.at d (suc i) ≡ at + (4 + length b.0) = omega (arith, name_size b.1) in
        record { bytes = b.0; is = n.1 ∙ ap ok b.1; reads = b.2; next = ap (name_at w.at d) (add-one i) ∙ next }

    pub never_refused : {f : Fault} {p : ℕ} → sized.read m at ≡ no f p → ⊥
    never_refused e = no_ok (sym e ∙ named.reads)

    module _ {start end : ℕ} (b : Here false unlimited m at start end) where
      pub goes_on : end ≡ name_at w.at d (i + 1)
      goes_on = let h = name_here named.bytes named.reads b in h.1 ∙ sym named.next

      -- whether the column of this turn has a type and name
      pub fits_by : {t : ℕ} (type : ℕ) (wanted : List ℕ) → t ≡ number_in (shown ((number 1 0).read m (l.types + i))) → fits w.tab (a_card i type wanted) ≡ (eqb t type && same (take (end - start) (drop start m)) wanted)
      unfolding fits
      fits_by {t} type wanted e =
          let many = columns_are in
          let y = entry_in d.types i (omega arith) in
          let h = name_here named.bytes named.reads b in
          let part : named.bytes ≡ take (end - start) (drop start m) = sym h.0 ∙ b.bytes in
          rw (named.is, y.1, ← type_read i below y.1 e, ← part)

  -- the column at a position, by its layout
  pub column_told : (p : ℕ) {k : ColumnLayout} → p < l.columns
      → ((at : ℕ) (b : Table) → Stands table m at b → l.types ≡ column_type_at at b.metadata 0 → l.names ≡ name_at at b.metadata 0 → p < length b.metadata.types → ok k ≡ column_of at b p)
      → Told m w.at w.tab p k
  column_told p below is = told p w.stands (sym (is w.at w.tab w.stands types_at names_at (omega (arith, columns_are))))

-- a table that was found is laid out so
abbrev pub laid : {timed : Bool} {m : List ℕ} {t : ℕ} {l : TableLayout} → Opened timed m t l → Laid m l
laid {timed} {t = t} o = record { at = table_at timed o.message t; tab = o.tab; stands = o.stands; is = o.is }

-- ---- what is left to search decides the search
pub record Left {m : List ℕ} {l : TableLayout} (type : ℕ) (wanted : List ℕ) (w : Laid m l) (at i : ℕ) : Type 0 where
  pub place : at ≡ name_at w.at w.tab.metadata i
  pub decide : first_from (λ k. fits w.tab (a_card k type wanted)) i (l.columns - i) ≡ stands_at w.tab type wanted

module _ {m : List ℕ} {l : TableLayout} (type : ℕ) (wanted : List ℕ) (w : Laid m l) where
  abbrev test : ℕ → Bool
  test k = fits w.tab (a_card k type wanted)

  pub starts : Left type wanted w l.names 0
  unfolding stands_at
  starts = let all : l.columns - 0 ≡ length w.tab.metadata.types = omega (arith, columns_are w) in record { place = names_at w; decide = rw all }

  module _ {at i : ℕ} (left : Left type wanted w at i) where
    pub found_it : i < l.columns → test i ≡ true → some i ≡ stands_at w.tab type wanted
    found_it below is = sym (first_here test i l.columns below is) ∙ left.decide

    pub ends : l.columns ≤ i → none ≡ stands_at w.tab type wanted
    ends past = sym (first_none test i l.columns past) ∙ left.decide

    pub turn : {next : ℕ} → i < l.columns → test i ≡ false → next ≡ name_at w.at w.tab.metadata (i + 1) → Left type wanted w next (i + 1)
    turn below not e = record { place = e; decide = sym (first_later test i l.columns below not) ∙ left.decide }
