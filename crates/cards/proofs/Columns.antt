-- What a column's layout says of the column: its type, and that its name is that part of the message.
use Rattle.std.specs.Prelude.{Result, Err}
use Prim.Native.Nat.{ℕ, ◌+◌, ◌-◌, ◌≤◌, ◌<◌}
use mathlib.Core.Path.{◌≡◌, refl, sym, ◌∙◌, ap}
use mathlib.Core.Bool.{Bool, true, false, ◌&&◌, false≢true}
use mathlib.Core.List.{List, [], ◌∷◌, ◌++◌, append_assoc}
use mathlib.Core.Option.{Option, some, none}
use lib.ListN.{length, take, drop, length-append}
use lib.Seq.{take_at, drop_at, length-take-le}
use lib.Dec.{leb, ltb, eqb}
use native.Mathlib.Omega.{arith}
use borrow.Author.Tests.{leb-true, ltb-true, le-leb, lt-leb, eq-eqb, ne_eqb}
use Rattle.format.specs.declared.Fault.{Fault}
use Rattle.format.specs.declared.Fault.TheVariants.{Stale, Name, Limit, Output}
use Rattle.format.specs.declared.Refusal.{Refusal}
use Rattle.format.specs.Result.{Res, ok, no, bind, pick}
use Rattle.format.specs.Number.{num_bytes, Bytes}
use Rattle.format.specs.Format.{counted, room, into, both, ruled, fine, bad}
use Rattle.format.specs.Value.{is_column, ascii_from}
use Rattle.format.specs.Message.{third, column_type, most_columns, Metadata, metadata, Table, table, Message, response_layout, read_message}
use Rattle.format.proofs.Results.{ok_same, no_ok, bound, and_true_both}
use Rattle.format.proofs.Numbers.{length-num_bytes}
use Rattle.places.specs.Stands.{Stands}
use Rattle.places.specs.Places.{name_bytes, tables_of, table_at, name_at}
use Rattle.places.specs.Entries.{entry}
use Rattle.places.proofs.Stands.{stands_at_lem}
use Rattle.places.proofs.Lists.{entry_below, stands_entry}
use Rattle.places.proofs.Layouts.{name, metadata_stands, types_stand, names_stand, names_all, name_place_lem}
use Rattle.places.proofs.Replies.{table_stands}
use Rattle.query.specs.declared.ColumnLayout.{ColumnLayout}
use Rattle.query.specs.Answers.{perhaps, of_table, same, column_of, first_named, named_of, ask_named}
use Rattle.query.proofs.Opened.{found, found_asked, retold, some_ok}
use Rattle.query.proofs.Theorems.{finds_first}
use Rattle.cards.specs.declared.Reason.{Reason}
use Rattle.cards.specs.Card.{Card, a_card, most_name, Low}
use Rattle.cards.specs.Answers.{fitting, fits, opened, short_named, size_of, room_for, card_of, ask_card, Made}
use Rattle.cards.specs.Reasons.{reason_of, stands_at, why_not, fit_of}

-- ---- a column of an accepted table can be on a card
pub few_columns : {m : List ℕ} {at : ℕ} {d : Metadata} → Stands metadata m at d → length d.types ≤ most_columns
unfolding metadata room into both ruled
few_columns md = leb-true _ most_columns md.good.0.0.1.0.1

pub column_type_lem : {m : List ℕ} {at : ℕ} {d : Metadata} → Stands metadata m at d → (i : ℕ) {t : ℕ} → entry d.types i ≡ ok t → is_column t ≡ true
unfolding ruled
column_type_lem {d = d} md i e = (stands_entry third 0 (length d.types) (column_type 45) d.types i (types_stand md) e).good.1

low_from : (k : ℕ) (bs : List ℕ) → ascii_from k bs ≡ fine → Low bs
low_from k [] e = tt
low_from k (b ∷ bs) e = by_byte (λ h. low_from (k + 1) bs h) (ltb b 128) refl e
  where
    by_byte : (ascii_from (k + 1) bs ≡ fine → Low bs) → (t : Bool) → ltb b 128 ≡ t → pick t (ascii_from (k + 1) bs) (bad Name k) ≡ fine → Low (b ∷ bs)
    by_byte others true is h = (omega (arith, ltb-true b 128 is), others h)
    by_byte others false is h = absurd (let z : ◌≡◌ {A = ℕ} 0 1 = cc in omega arith)

pub column_name : {m : List ℕ} {at : ℕ} {d : Metadata} → Stands metadata m at d → (i : ℕ) {bs : List ℕ} → entry d.names i ≡ ok (some bs) → Low bs
unfolding counted
column_name {d = d} md i {bs} e = low_from 4 bs (stands_entry third 0 (length d.types) name d.names i (names_stand md) e).good.2

-- ---- what a layout says
-- a name that stands is that part of the message
name_part : {m : List ℕ} {p : ℕ} (n : Option (List ℕ)) → Stands name m p n → (bs : List ℕ) × (n ≡ some bs) × (p + 4 + length bs ≤ length m) × (take (length bs) (drop (p + 4) m) ≡ bs)
unfolding counted
name_part none d = absurd (false≢true d.good)
name_part {m} {p} (some bs) d =
    let before = d.before ++ num_bytes 4 (length bs) in
    let front : before ++ (bs ++ d.after) ≡ m = rw (append_assoc d.before, ← append_assoc (num_bytes 4 (length bs))) d.whole in
    let far : length before ≡ p + 4 = rw (length-append, length-num_bytes) (omega (arith, d.start)) in (
      bs,
      refl,
      omega (arith, far, ap length front, length-append before (bs ++ d.after), length-append bs d.after),
      rw (← front, drop_at before (bs ++ d.after) (p + 4) far, take_at bs d.after (length bs) refl),
    )

pub record Told (m : List ℕ) (at : ℕ) (b : Table) (i : ℕ) (l : ColumnLayout) : Type 0 where
  pub typed : entry b.metadata.types i ≡ ok l.wire_type
  pub bytes : List ℕ
  pub named : entry b.metadata.names i ≡ ok (some bytes)
  pub starts : l.name ≡ name_at at b.metadata i + 4
  pub inside : l.name + l.name_length ≤ length m
  pub part : take l.name_length (drop l.name m) ≡ bytes

pub told : {m : List ℕ} {at : ℕ} {b : Table} (i : ℕ) {l : ColumnLayout} → Stands table m at b → column_of at b i ≡ ok l → Told m at b i l
told {m} {at} {b} i {l} d e =
    let md = metadata_stands d in
    let types = b.metadata.types in
    let names = b.metadata.names in
    let y = bound (entry types i) e in
    let n = bound (entry names i) y.2 in
    let below = entry_below names i n.1 in
    let all = names_all md in
    let few : length (take i names) ≤ length types = omega (arith, length-take-le i names (omega arith)) in
    let here : Stands name m (name_at at b.metadata i) n.0 = stands_at_lem (omega (arith, name_place_lem at b.metadata i few)) (stands_entry third 0 (length types) name names i (names_stand md) n.1) in
    let w = name_part n.0 here in
    let size : length (name_bytes n.0) ≡ length w.0 = ap (λ (z : Option (List ℕ)). length (name_bytes z)) w.1 in
    let fit = w.2 in
    rw (← ok_same n.2) (record {
      typed = y.1;
      bytes = w.0;
      named = n.1 ∙ ap ok w.1;
      starts = refl;
      inside = omega arith;
      part = ap (λ (k : ℕ). take k (drop (name_at at b.metadata i + 4) m)) size ∙ w.3;
    })

-- ---- the column at a card's position
module _ (timed : Bool) (m : List ℕ) (t i w : ℕ) (wanted : List ℕ) where
  abbrev placed : Res (Option ColumnLayout)
  placed = of_table timed m t (λ at b. ok (perhaps (column_of at b i)))

  abbrev ask : ℕ → Table → Res ℕ
  ask at b = opened b (a_card i w wanted)

  misfits : (x : Res ℕ) (y : Res (Option (List ℕ))) (k : ℕ → Option (List ℕ) → ColumnLayout) → none ≡ perhaps (bind x (λ a. bind y (λ n. ok (k a n)))) → fitting x y (a_card i w wanted) ≡ false
  misfits (ok a) (ok n) k e = absurd (let z : ◌≡◌ {A = ℕ} 0 1 = cc in omega arith)
  misfits (ok a) (no f p) k e = refl
  misfits (no f p) y k e = refl

  pub past_stale : ok none ≡ placed → no Stale 0 ≡ of_table timed m t (λ at b. opened b (a_card i w wanted))
  unfolding fits
  past_stale e =
      let f = found (response_layout timed) tables_of (table_at timed) m t (λ at b. perhaps (column_of at b i)) e in
      sym (found_asked (response_layout timed) tables_of (table_at timed) m t f ask ∙ ap (λ (z : Bool). pick z (ok i) (no Stale 0)) (misfits (entry f.part.metadata.types i) (entry f.part.metadata.names i) _ f.is))

  module _ (all : Bytes m) {l : ColumnLayout} (e : ok (some l) ≡ placed) where
    pub inside : l.name + l.name_length ≤ length m
    inside = let f = found (response_layout timed) tables_of (table_at timed) m t (λ at b. perhaps (column_of at b i)) e in (told i (table_stands timed m all f.message f.accepted t f.there) (some_ok _ f.is)).inside

    pub opens_by : pick (eqb l.wire_type w && same (take l.name_length (drop l.name m)) wanted) (ok i) (no Stale 0) ≡ of_table timed m t (λ at b. opened b (a_card i w wanted))
    unfolding fits
    opens_by =
        let f = found (response_layout timed) tables_of (table_at timed) m t (λ at b. perhaps (column_of at b i)) e in
        let c = told i (table_stands timed m all f.message f.accepted t f.there) (some_ok _ f.is) in
        sym (found_asked (response_layout timed) tables_of (table_at timed) m t f ask ∙ rw (c.typed, c.named, c.part))

-- ---- how a card fits, by that column
module _ (b : Table) (i w : ℕ) (wanted : List ℕ) where
  abbrev tells : Option Reason → Type 0
  tells r = why_not r (stands_at b w wanted) ≡ fit_of b (a_card i w wanted)

  pub past_told : length b.metadata.types ≤ i → tells (some Reason.Past)
  unfolding reason_of
  past_told h = rw (le-leb _ _ h)

  module _ {m : List ℕ} {at : ℕ} {l : ColumnLayout} (t : Told m at b i l) where
    abbrev alike : Bool
    alike = eqb l.wire_type w && same (take l.name_length (drop l.name m)) wanted

    there : leb (length b.metadata.types) i ≡ false
    there = lt-leb _ _ (entry_below b.metadata.types i t.typed)

    pub fits_told : alike ≡ true → tells none
    unfolding reason_of
    fits_told e = let both = and_true_both (eqb l.wire_type w) (same (take l.name_length (drop l.name m)) wanted) e in rw (there, t.typed, both.0, t.named, ← t.part, both.1)

    pub type_told : (l.wire_type ≡ w → ⊥) → tells (some Reason.OtherType)
    unfolding reason_of
    type_told other = rw (there, t.typed, ne_eqb _ _ other)

    pub name_told : l.wire_type ≡ w → alike ≡ false → tells (some Reason.OtherName)
    unfolding reason_of
    name_told is e = let other = rw (eq-eqb _ _ is) at e in rw (there, t.typed, eq-eqb _ _ is, t.named, ← t.part, other)

-- ---- the first column of a name
module _ (m : List ℕ) (t : ℕ) (wanted : List ℕ) where
  -- where there is none, there is no card
  pub no_card : {f : Fault} {p : ℕ} → no f p ≡ ask_named m t wanted → ask_card m t wanted ≡ no f p
  no_card {f} {p} e = by_message (read_message 4 m) e
    where
      carding : ℕ → Table → ℕ → ℕ → Res Card
      carding at b i a = short_named (name_at at b.metadata i) (a_card i a wanted)

      by_type : (x : Res ℕ) (y : Res (Option (List ℕ))) (i : ℕ) (k : ℕ → Option (List ℕ) → ColumnLayout) (g : ℕ → Res Card) → y ≡ ok (some wanted)
          → ◌≡◌ {A = Res (ℕ × ColumnLayout)} (no f p) (bind (bind x (λ a. bind y (λ n. ok (k a n)))) (λ l. ok (i, l))) → bind x g ≡ no f p
      by_type (ok a) y i k g h e = absurd (no_ok (rw h at e))
      by_type (no x q) y i k g h e = sym (retold e)

      by_name : (b : Table) (at : ℕ) (x : Res ℕ) → first_named wanted b.metadata.names 0 ≡ x → ◌≡◌ {A = Res (ℕ × ColumnLayout)} (no f p) (bind x (λ i. bind (column_of at b i) (λ l. ok (i, l))))
          → bind x (λ i. bind (entry b.metadata.types i) (carding at b i)) ≡ no f p
      by_name b at (ok i) h e = by_type (entry b.metadata.types i) (entry b.metadata.names i) i _ (carding at b i) (finds_first wanted b.metadata.names i h).there e
      by_name b at (no x q) h e = sym (retold e)

      by_table : (at : ℕ) (x : Res Table) → no f p ≡ bind x (λ b. named_of at b wanted) → bind x (λ b. card_of at b wanted) ≡ no f p
      by_table at (ok b) e = by_name b at (first_named wanted b.metadata.names 0) refl e
      by_table at (no x q) e = sym (retold e)

      by_message : (x : Res Message) → no f p ≡ bind x (λ r. bind (entry (tables_of r) t) (λ b. named_of (table_at true r t) b wanted))
          → bind x (λ r. bind (entry (tables_of r) t) (λ b. card_of (table_at true r t) b wanted)) ≡ no f p
      by_message (ok r) e = by_table (table_at true r t) (entry (tables_of r) t) e
      by_message (no x q) e = sym (retold e)

  -- where there is one, there is, if its name is short
  pub record Carded (i : ℕ) (l : ColumnLayout) : Type 0 where
    pub deep : 4 ≤ l.name
    pub is : ask_card m t wanted ≡ short_named (l.name - 4) (a_card i l.wire_type wanted)

  carded_as : {i j : ℕ} {l k : ColumnLayout} → i ≡ j → l ≡ k → Carded i l → Carded j k
  carded_as e f w = rw (← e, ← f) w

  pub carded : Bytes m → {i : ℕ} {l : ColumnLayout} → ok (i, l) ≡ ask_named m t wanted → Carded i l
  carded all {i} {l} e =
      let r = bound (read_message 4 m) (sym e) in
      let q = bound (entry (tables_of r.0) t) r.2 in
      let b = q.0 in
      let at = table_at true r.0 t in
      let n = bound (first_named wanted b.metadata.names 0) q.2 in
      let y = bound (column_of at b n.0) n.2 in
      let pair = ok_same y.2 in
      let first : n.0 ≡ i = ap (λ (z : ℕ × ColumnLayout). z.0) pair in
      let layout : y.0 ≡ l = ap (λ (z : ℕ × ColumnLayout). z.1) pair in
      let c = told n.0 (table_stands true m all r.0 r.1 t q.1) y.1 in
      let starts = c.starts in
      let place : y.0.name - 4 ≡ name_at at b.metadata n.0 = omega arith in
      let is : ask_card m t wanted ≡ short_named (y.0.name - 4) (a_card n.0 y.0.wire_type wanted)
      = ap (λ (z : Res Message). bind z (λ v. bind (entry (tables_of v) t) (λ x. card_of (table_at true v t) x wanted))) r.1
      ∙ ap (λ (z : Res Table). bind z (λ x. card_of at x wanted)) q.1
      ∙ ap (λ (z : Res ℕ). bind z (λ j. bind (entry b.metadata.types j) (λ a. short_named (name_at at b.metadata j) (a_card j a wanted)))) n.1
      ∙ ap (λ (z : Res ℕ). bind z (λ a. short_named (name_at at b.metadata n.0) (a_card n.0 a wanted))) c.typed
      ∙ ap (λ (z : ℕ). short_named z (a_card n.0 y.0.wire_type wanted)) (sym place) in
      carded_as first layout (record { deep = omega arith; is = is })

-- ---- what is made
pub made_as : {r s : Res Card} {x : Result ℕ Refusal} {before after : List ℕ} → r ≡ s → Made r x before after → Made s x before after
made_as e w = rw (← e) w

pub not_made : {r : Res Card} {x : Refusal} {out : List ℕ} → r ≡ no x.fault x.place → Made r (Err x) out out
not_made e = rw e (record { answer = refl; buffer = refl })

module _ (place : ℕ) (c : Card) (room : ℕ) where
  pub too_long : most_name < length c.name → bind (short_named place c) (room_for room) ≡ no Limit place
  too_long h = rw (lt-leb _ _ h)

  module _ (short : length c.name ≤ most_name) where
    pub no_room : room < size_of c → bind (short_named place c) (room_for room) ≡ no Output (size_of c)
    no_room h = rw (le-leb _ _ short, lt-leb _ _ h)

    pub has_room : size_of c ≤ room → bind (short_named place c) (room_for room) ≡ ok c
    has_room h = rw (le-leb _ _ short, le-leb _ _ h)
