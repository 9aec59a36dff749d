-- What cards are good for: a card made opens the column that it was made from; a well-formed card opens a column exactly if position, type and name
-- fit; and opening looks at nothing in the message but the table's column count and that column's type and name.
use Rattle.format.specs.declared.Refusal.{Refusal}
use Rattle.std.specs.Prelude.{Result}
use Prim.Native.Nat.{ℕ, ◌<◌, ◌≤◌}
use mathlib.Core.Path.{◌≡◌, refl, sym, ◌∙◌, ap}
use mathlib.Core.Bool.{Bool, true, false, ◌&&◌, false≢true}
use mathlib.Core.List.{List}
use mathlib.Core.Option.{Option, some, none}
use lib.ListN.{length, take, drop}
use lib.Seq.{take_at, drop_at}
use lib.Dec.{leb, ltb, eqb}
use native.Mathlib.Omega.{arith}
use borrow.Author.Tests.{leb-true, eqb-true, ltb-true, ltb-false, eq-eqb}
use Rattle.format.specs.declared.Fault.{Fault}
use Rattle.format.specs.declared.Fault.TheVariants.{Stale, Limit, Output}
use Rattle.format.specs.Result.{Res, ok, no, bind, pick, told}
use Rattle.format.specs.Number.{Bytes}
use Rattle.format.specs.Message.{Table, Message, read_message}
use Rattle.format.proofs.Decides.{answer_once}
use Rattle.format.proofs.Results.{ok_same, bound, passed, and_true_both}
use Rattle.places.specs.Places.{tables_of, table_at, name_at}
use Rattle.places.specs.Entries.{entry}
use Rattle.places.proofs.Lists.{entry_below, entry_past}
use Rattle.places.proofs.Layouts.{metadata_stands}
use Rattle.places.proofs.Replies.{table_stands}
use Rattle.query.specs.Answers.{same, is_named, first_named}
use Rattle.query.proofs.Names.{same_yes, same_true}
use Rattle.query.proofs.Theorems.{First, finds_first}
use Rattle.cards.specs.Card.{Card, a_card, card_form, card_bytes, most_name, GoodCard}
use Rattle.cards.specs.Answers.{fitting, fits, opened, ask_open, ask_card, size_of, ask_made, Made}
use Rattle.cards.proofs.Forms.{card_size_lem, encodes→form, every_position}
use Rattle.cards.proofs.Columns.{few_columns, column_type_lem, column_name}

-- a column that has a card's type and name fits it
pub column_fits : (b : Table) (c : Card) → entry b.metadata.types c.position ≡ ok c.type → entry b.metadata.names c.position ≡ ok (some c.name) → fits b c ≡ true
unfolding fits
column_fits b c e f = rw (e, f, eq-eqb c.type c.type refl) (same_yes c.name)

pub fits_column : (b : Table) (c : Card) → fits b c ≡ true → (entry b.metadata.types c.position ≡ ok c.type) × (entry b.metadata.names c.position ≡ ok (some c.name))
unfolding fits
fits_column b c h = by_entries (entry b.metadata.types c.position) (entry b.metadata.names c.position) h
  where
    by_name : (t : ℕ) (n : Option (List ℕ)) → eqb t c.type && is_named c.name n ≡ true → (ok t ≡ ok c.type) × (ok n ≡ ok (some c.name))
    by_name t none e = absurd (false≢true (and_true_both (eqb t c.type) false e).1)
    by_name t (some bs) e =
        let w = and_true_both (eqb t c.type) (same bs c.name) e in
        (ap ok (eqb-true t c.type w.0), ap (λ (z : List ℕ). ok (some z)) (same_true bs c.name w.1))

    by_entries : (t : Res ℕ) (n : Res (Option (List ℕ))) → fitting t n c ≡ true → (t ≡ ok c.type) × (n ≡ ok (some c.name))
    by_entries (ok t) (ok n) e = by_name t n e
    by_entries (ok t) (no f p) e = absurd (false≢true e)
    by_entries (no f p) n e = absurd (false≢true e)

-- what opening comes to for an accepted message, a well-formed card and a table that is there
module _ (m : List ℕ) (t : ℕ) (bs : List ℕ) {r : Message} {c : Card} {b : Table} (accepted : read_message 4 m ≡ ok r) (formed : card_form bs ≡ ok c) (there : entry (tables_of r) t ≡ ok b) where
  abbrev with_card : Message → Card → Res ℕ
  with_card z y = bind (entry (tables_of z) t) (λ w. opened w y)

  comes_to : ask_open m t bs ≡ opened b c
  comes_to =
      ap (λ (z : Res Message). bind z (λ y. bind (card_form bs) (with_card y))) accepted
      ∙ ap (λ (z : Res Card). bind z (with_card r)) formed
      ∙ ap (λ (z : Res Table). bind z (λ w. opened w c)) there

  -- a card opens a column exactly if that is there and has the card's type and name, and what it opens is its position
  pub opens→fits : (i : ℕ) → ask_open m t bs ≡ ok i
      → (i ≡ c.position) × (entry b.metadata.types c.position ≡ ok c.type) × (entry b.metadata.names c.position ≡ ok (some c.name))
  opens→fits i e =
      let w = passed (fits b c) Stale 0 (sym comes_to ∙ e) in
      let f = fits_column b c w.0 in
      (sym (ok_same w.1), f.0, f.1)

  pub fits→opens : entry b.metadata.types c.position ≡ ok c.type → entry b.metadata.names c.position ≡ ok (some c.name) → ask_open m t bs ≡ ok c.position
  fits→opens e f = comes_to ∙ ap (λ (z : Bool). pick z (ok c.position) (no Stale 0)) (column_fits b c e f)

-- a card that is made is a good one, and that of the first column of the name
pub record Source (m : List ℕ) (t : ℕ) (wanted : List ℕ) (c : Card) : Type 0 where
  pub message : Message
  pub accepted : read_message 4 m ≡ ok message
  pub tab : Table
  pub there : entry (tables_of message) t ≡ ok tab
  pub first : First wanted tab.metadata.names c.position
  pub type : entry tab.metadata.types c.position ≡ ok c.type
  pub name : c.name ≡ wanted
  pub good : GoodCard c

source_as : {m : List ℕ} {t : ℕ} {wanted : List ℕ} {c d : Card} → c ≡ d → Source m t wanted c → Source m t wanted d
source_as e w = rw (← e) w

pub made_from : (m : List ℕ) → Bytes m → (t : ℕ) (wanted : List ℕ) (c : Card) → ask_card m t wanted ≡ ok c → Source m t wanted c
made_from m all t wanted c e =
    let r = bound (read_message 4 m) e in
    let q = bound (entry (tables_of r.0) t) r.2 in
    let d = q.0.metadata in
    let i = bound (first_named wanted d.names 0) q.2 in
    let y = bound (entry d.types i.0) i.2 in
    let w = passed (leb (length wanted) most_name) Limit (name_at (table_at true r.0 t) d i.0) y.2 in
    let first = finds_first wanted d.names i.0 i.1 in
    let md = metadata_stands (table_stands true m all r.0 r.1 t q.1) in
    let below = entry_below d.types i.0 y.1 in
    let few = few_columns md in
    let good : GoodCard (a_card i.0 y.0 wanted) = record { held = every_position i.0 (omega arith); column = column_type_lem md i.0 y.1; short = leb-true (length wanted) most_name w.0; low = column_name md i.0 first.there } in
    source_as (ok_same w.1) (record { message = r.0; accepted = r.1; tab = q.0; there = q.1; first = first; type = y.1; name = refl; good = good })

-- and it opens that column
pub made_opens : (m : List ℕ) → Bytes m → (t : ℕ) (wanted : List ℕ) (c : Card) → ask_card m t wanted ≡ ok c → ask_open m t (card_bytes c) ≡ ok c.position
made_opens m all t wanted c e =
    let s = made_from m all t wanted c e in
    fits→opens m t (card_bytes c) s.accepted (encodes→form c s.good) s.there s.type (s.first.there ∙ ap (λ (z : List ℕ). ok (some z)) (sym s.name))

-- what was written is such a card, and no byte past it has changed
module _ (m : List ℕ) (all : Bytes m) (t : ℕ) (wanted : List ℕ) (x : Result ℕ Refusal) (before after : List ℕ) (c : Card) (e : ask_made m t wanted (length before) ≡ ok c) (w : Made (ok c) x before after) where
  made : ask_card m t wanted ≡ ok c
  made =
      let a = bound (ask_card m t wanted) e in
      a.1 ∙ ap ok (ok_same (passed (leb (size_of a.0) (length before)) Output (size_of a.0) a.2).1)

  size : length (card_bytes c) ≡ size_of c
  size = card_size_lem c (made_from m all t wanted c made).good.short

  pub written_opens : ask_open m t (take (size_of c) after) ≡ ok c.position
  written_opens =
      let front : take (size_of c) after ≡ card_bytes c = ap (take (size_of c)) w.buffer ∙ take_at (card_bytes c) (drop (size_of c) before) (size_of c) size in
      ap (ask_open m t) front ∙ made_opens m all t wanted c made

  pub made_keeps : drop (size_of c) after ≡ drop (size_of c) before
  made_keeps = ap (drop (size_of c)) w.buffer ∙ drop_at (card_bytes c) (drop (size_of c) before) (size_of c) size

-- a refusal changes no byte
pub refused_keeps : {f : Fault} {p : ℕ} {x : Result ℕ Refusal} {before after : List ℕ} → Made (no f p) x before after → after ≡ before
refused_keeps w = w.buffer

-- two replies whose tables agree in their column count, and in the type and name of a card's column, open the card alike
module _ (m l : List ℕ) (t u : ℕ) (bs : List ℕ) {r s : Message} {c : Card} {a b : Table}
    (r-accepted : read_message 4 m ≡ ok r) (s-accepted : read_message 4 l ≡ ok s) (formed : card_form bs ≡ ok c) (a-there : entry (tables_of r) t ≡ ok a) (b_there : entry (tables_of s) u ≡ ok b)
    (as_many : length a.metadata.types ≡ length b.metadata.types)
    (alike : c.position < length a.metadata.types → (entry a.metadata.types c.position ≡ entry b.metadata.types c.position) × (entry a.metadata.names c.position ≡ entry b.metadata.names c.position)) where
  same_fit : fits a c ≡ fits b c
  unfolding fits
  same_fit = by_place (ltb c.position (length a.metadata.types)) refl
    where
      past : (x : Table) → length x.metadata.types ≤ c.position → fitting (entry x.metadata.types c.position) (entry x.metadata.names c.position) c ≡ false
      past x h = rw (entry_past x.metadata.types c.position h)

      by_place : (z : Bool) → ltb c.position (length a.metadata.types) ≡ z
          → fitting (entry a.metadata.types c.position) (entry a.metadata.names c.position) c ≡ fitting (entry b.metadata.types c.position) (entry b.metadata.names c.position) c
      by_place true h = let w = alike (ltb-true _ _ h) in rw (w.0, w.1)
      by_place false h = let far = ltb-false _ _ h in past a far ∙ sym (past b (omega arith))

  pub opens_alike : ask_open m t bs ≡ ask_open l u bs
  opens_alike =
      comes_to m t bs r-accepted formed a-there ∙ ap (λ (z : Bool). pick z (ok c.position) (no Stale 0)) same_fit ∙ sym (comes_to l u bs s-accepted formed b_there)

-- ---- the statements decide: two answers to one question are the same, and so are two buffers
pub open_once : (m : List ℕ) (t : ℕ) (bs : List ℕ) (a b : Result ℕ Refusal) → told a ≡ ask_open m t bs → told b ≡ ask_open m t bs → a ≡ b
open_once m t bs a b e f = answer_once a b (e ∙ sym f)

pub made_once : (r : Res Card) (a b : Result ℕ Refusal) (before after other : List ℕ) → Made r a before after → Made r b before other → (a ≡ b) × (after ≡ other)
made_once r a b before after other w v = (answer_once a b (w.answer ∙ sym v.answer), w.buffer ∙ sym v.buffer)
