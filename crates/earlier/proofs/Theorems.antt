-- What was accepted is accepted, with the same record, and in such a reply a card of the first kind opens what it opened, and is made as it was: each is a reading of the reply, and then the same.
use Prim.Native.Nat.{ℕ}
use mathlib.Core.Path.{◌≡◌, refl, sym, ◌∙◌, ap}
use mathlib.Core.Bool.{Bool, true, false}
use mathlib.Core.List.{List}
use lib.ListN.{length, get_or}
use lib.Dec.{leb, eqb}
use native.Mathlib.Omega.{arith}
use borrow.Author.Tests.{eqb-true, eqb-false, le-leb}
use Rattle.format.specs.declared.Fault.TheVariants.{Limit, CardForm}
use Rattle.format.specs.Result.{Res, ok, no, bind, pick}
use Rattle.format.specs.Message.{Message, read_message, response_layout}
use Rattle.format.proofs.Results.{ok_same, no_ok, passed, bound}
use Rattle.places.specs.Places.{tables_of, table_at}
use Rattle.places.specs.Entries.{entry}
use Rattle.places.proofs.Lists.{entry_below}
use Rattle.query.specs.Answers.{first_named}
use Rattle.cards.specs.Card.{Card, near, far, sized, card_form, bytes_in, card_bytes, most_name}
use Rattle.cards.specs.Answers.{opened, ask_open, card_of, ask_card}
use Rattle.cards.proofs.Forms.{is_near, no_kind}
use Rattle.earlier.specs.Before.{read_before, form_before, open_before, card_before}
use Rattle.earlier.specs.Kept.{Kept, same, wider}
use Rattle.earlier.proofs.Readings.{read_as_before}
use Rattle.earlier.proofs.Few.{few_columns}

pub still_accepted : (timed : Bool) (m : List ℕ) (r : Message) → read_before timed m ≡ ok r → read_message (response_layout timed) m ≡ ok r
still_accepted timed m r e = go (read_as_before timed m)
  where
    go : Kept m (read_before timed m) (read_message (response_layout timed) m) → read_message (response_layout timed) m ≡ ok r
    go (same h) = sym h ∙ e
    go (wider p w h) = absurd (no_ok (sym h ∙ e))

-- a card whose first byte isn't that of the second kind says what it said, or is refused as it was
pub formed_as_before : (bs : List ℕ) → (get_or bs 0 0 ≡ far.number → ⊥) → form_before bs ≡ card_form bs
formed_as_before bs other = go (eqb (get_or bs 0 0) near.number) refl
  where
    go : (t : Bool) → eqb (get_or bs 0 0) near.number ≡ t → pick t (sized near bs) (no CardForm 0) ≡ card_form bs
    go true e = sym (is_near bs (eqb-true _ _ e))
    go false e = sym (no_kind bs (eqb-false _ _ e) other)

pub still_formed : (bs : List ℕ) (c : Card) → form_before bs ≡ ok c → card_form bs ≡ ok c
still_formed bs c e = let p = passed (eqb (get_or bs 0 0) near.number) CardForm 0 e in is_near bs (eqb-true _ _ p.0) ∙ p.1

-- in a reply that was accepted
module _ (m : List ℕ) {r : Message} (accepted : read_before true m ≡ ok r) (t : ℕ) where
  now_accepted : read_message 4 m ≡ ok r
  now_accepted = still_accepted true m r accepted

  abbrev opening : List ℕ → Res Message → Res Card → Res ℕ
  opening bs x y = bind x (λ r. bind y (λ c. bind (entry (tables_of r) t) (λ b. opened b c)))

  pub opens_as_before : (bs : List ℕ) → (get_or bs 0 0 ≡ far.number → ⊥) → open_before m t bs ≡ ask_open m t bs
  opens_as_before bs other =
      ap (λ (x : Res Message). opening bs x (form_before bs)) (accepted ∙ sym now_accepted)
      ∙ ap (λ (y : Res Card). opening bs (read_message 4 m) y) (formed_as_before bs other)

  pub made_as_before : (name : List ℕ) → card_before m t name ≡ ask_card m t name
  made_as_before name = ap (λ (x : Res Message). bind x (λ r. bind (entry (tables_of r) t) (λ b. card_of (table_at true r t) b name))) (accepted ∙ sym now_accepted)

-- a card that was made is a near one, and so has the bytes that it had
pub made_near : (m : List ℕ) (t : ℕ) (name : List ℕ) (c : Card) → card_before m t name ≡ ok c → card_bytes c ≡ bytes_in near c
made_near m t name c e =
    let r = bound (read_before true m) e in
    let b = bound (entry (tables_of r.0) t) r.2 in
    let i = bound (first_named name b.0.metadata.names 0) b.2 in
    let y = bound (entry b.0.metadata.types i.0) i.2 in
    let w = passed (leb (length name) most_name) Limit _ y.2 in
    let below = entry_below b.0.metadata.types i.0 y.1 in
    let few = few_columns true m r.0 r.1 t b.0 b.1 in
    let position : i.0 ≡ c.position = ap (λ (z : Card). z.position) (ok_same w.1) in
    let near-one : leb c.position near.high ≡ true = le-leb c.position near.high (omega (arith, position, below, few)) in
    ap (λ (u : Bool). bytes_in (pick u near far) c) near-one

-- whatever a card opened it opens
pub still_opens : (m : List ℕ) (t : ℕ) (bs : List ℕ) (i : ℕ) → open_before m t bs ≡ ok i → ask_open m t bs ≡ ok i
still_opens m t bs i e =
    let r = bound (read_before true m) e in
    let c = bound (form_before bs) r.2 in
    ap (λ (x : Res Message). bind x (λ r. bind (card_form bs) (λ c. bind (entry (tables_of r) t) (λ b. opened b c)))) (still_accepted true m r.0 r.1)
    ∙ ap (λ (y : Res Card). bind y (λ c. bind (entry (tables_of r.0) t) (λ b. opened b c))) (still_formed bs c.0 c.1)
    ∙ c.2
