-- A card's form and its bytes agree, whatever its kind: what is well-formed is the bytes of a good card, and those are well-formed.
use Rattle.std.specs.Prelude.{Result, Ok, Err}
use Prim.Native.Nat.{ℕ, zero, suc, ◌+◌, ◌-◌, ◌^◌, ◌<◌, ◌≤◌, min}
use mathlib.Core.Path.{◌≡◌, refl, sym, ◌∙◌, ap, ap₂, subst}
use mathlib.Core.Bool.{Bool, true, false}
use mathlib.Core.List.{List, [], ◌∷◌, ◌++◌}
use mathlib.Core.Option.{Option, some, none}
use lib.ListN.{length, get_or, take, drop, replicate, length-append, length-replicate, length-drop, take-append-drop}
use lib.Seq.{take_at, drop_at, take_all, drop-drop, length-take-le}
use lib.Dec.{leb, eqb}
use native.Mathlib.Nat.{le_of_eq, add-sub_cancel_left, mod-eq_of_lt, min-eq_left}
use native.Mathlib.Bridge.{le_prop}
use native.Mathlib.Omega.{arith}
use borrow.Author.Tests.{leb-true, leb-false, eqb-true, lt-ltb, le-ltb, le-leb, lt-leb, eq-eqb, ne_eqb}
use Rattle.format.specs.declared.Fault.{Fault}
use Rattle.format.specs.declared.Fault.TheVariants.{CardForm}
use Rattle.format.specs.declared.Refusal.{Refusal}
use Rattle.format.specs.Result.{Res, ok, no, bind, pick}
use Rattle.format.specs.Number.{num_at, num_bytes, Bytes}
use Rattle.format.specs.Format.{number}
use Rattle.format.specs.Value.{is_column}
use Rattle.format.specs.Message.{Table, Message, read_message, most_columns}
use Rattle.format.proofs.Results.{ok_same, no_ok, passed, and_true_both}
use Rattle.format.proofs.Numbers.{length-num_bytes, num_at_num_bytes, num_bytes_num_at}
use Rattle.scan.specs.Shown.{number_in, shown}
use Rattle.scan.proofs.Answers.{number_stands}
use Rattle.places.specs.Places.{tables_of}
use Rattle.places.specs.Entries.{entry}
use Rattle.query.specs.Answers.{of_table}
use Rattle.cards.specs.declared.kind.Kind.{Kind}
use Rattle.cards.specs.Card.{Card, a_card, near, far, kind_of, holds, card_form, card_body, card_rest, sized, rest_bytes, bytes_in, card_bytes, card_size, position_place, position_in, type_place, name_place, rest_size, most_size, most_name, most_byte, wrong_from, unless, Low, GoodCard}
use Rattle.cards.specs.Answers.{of_card}
use Rattle.cards.specs.Shown.{shown_form, own_before}

-- ---- a kind is told by its numbers: that its width is small has one proof
pub same_kind : {n w l h : ℕ} (k : Kind) → ◌≡◌ {A = ℕ × (ℕ × (ℕ × ℕ))} (n, (w, (l, h))) (k.number, (k.width, (k.low, k.high))) → (p : w ≤ 8) → ◌≡◌ {A = Kind} (record { number = n; width = w; low = l; high = h; narrow = p }) k
same_kind k e =
    subst (λ (v : ℕ × (ℕ × (ℕ × ℕ))). (p : v.1.0 ≤ 8) → ◌≡◌ {A = Kind} (record { number = v.0; width = v.1.0; low = v.1.1.0; high = v.1.1.1; narrow = p }) k) (sym e)
    (λ p. ap (λ (z : k.width ≤ 8). record { number = k.number; width = k.width; low = k.low; high = k.high; narrow = z }) (le_prop p k.narrow))

-- ---- the kinds: each position that a column can have is held by one
pub kind_near : (p : ℕ) → holds near p ≡ true → kind_of p ≡ near
kind_near p h = rw (and_true_both (leb near.low p) (leb p near.high) h).1

pub kind_far : (p : ℕ) → holds far p ≡ true → kind_of p ≡ far
kind_far p h = rw (lt-leb p near.high (omega (arith, leb-true far.low p (and_true_both (leb far.low p) (leb p far.high) h).0)))

pub held_once : (p : ℕ) → holds near p ≡ true → holds far p ≡ true → ⊥
held_once p n f = absurd (let z : near.number ≡ far.number = ap (λ (k : Kind). k.number) (sym (kind_near p n) ∙ kind_far p f) in omega arith)

pub every_position : (p : ℕ) → p < most_columns → holds (kind_of p) p ≡ true
every_position p few = go (leb p near.high) refl
  where
    go : (t : Bool) → leb p near.high ≡ t → holds (pick t near far) p ≡ true
    go true e = rw (le-leb near.low p (omega arith), e)
    go false e = rw (le-leb far.low p (omega (arith, leb-false p near.high e)), le-leb p far.high (omega arith))

by_kind : (P : Kind → Type 0) → P near → P far → (p : ℕ) → P (kind_of p)
by_kind P n f p = go (leb p near.high)
  where
    go : (t : Bool) → P (pick t near far)
    go true = n
    go false = f

pub few_bytes : (p : ℕ) → card_size (kind_of p) ≤ most_size
few_bytes p = by_kind (λ k. card_size k ≤ most_size) (omega arith) (omega arith) p

-- ---- a card has its size
pub rest_size_lem : (c : Card) → length c.name ≤ most_name → length (rest_bytes c) ≡ rest_size
rest_size_lem c h =
    let size : length (c.name ++ replicate (most_name - length c.name) 0) ≡ most_name = rw (length-append, length-replicate) (omega arith) in
    omega arith

pub bytes_size : (k : Kind) (c : Card) → length c.name ≤ most_name → length (bytes_in k c) ≡ card_size k
bytes_size k c h = omega (arith, length-append (num_bytes k.width c.position) (rest_bytes c), length-num_bytes k.width c.position, rest_size_lem c h)

pub card_size_lem : (c : Card) → length c.name ≤ most_name → length (card_bytes c) ≡ card_size (kind_of c.position)
card_size_lem c h = bytes_size (kind_of c.position) c h

-- ---- the bytes of a good card are well-formed
zeros_fine : (size k n : ℕ) → size ≤ k → wrong_from size k (replicate n 0) ≡ none
unfolding wrong_from
zeros_fine size k zero h = refl
zeros_fine size k (suc n) h = rw (le-ltb k size h) (zeros_fine size (k + 1) n (omega arith))

name_fine : (size k n : ℕ) (name : List ℕ) → Low name → k + length name ≡ size → wrong_from size k (name ++ replicate n 0) ≡ none
unfolding wrong_from
name_fine size k n [] l e = zeros_fine size k n (omega arith)
name_fine size k n (b ∷ name) l e = rw (lt-ltb k size (omega arith), le-leb b most_byte l.0) (name_fine size (k + 1) n name l.1 (omega arith))

rest_formed : (at : ℕ) (c : Card) → is_column c.type ≡ true → length c.name ≤ most_name → Low c.name → card_rest at c.position (rest_bytes c) ≡ ok c
unfolding card_rest
rest_formed at c column short low =
    let n = length c.name in
    simp (column, le-leb n most_name short, name_fine n 0 (most_name - n) c.name low (omega arith), take_at c.name (replicate (most_name - n) 0) n refl)

sized_formed : (k : Kind) → k.high < 256 ^ k.width → (c : Card) → holds k c.position ≡ true → is_column c.type ≡ true → length c.name ≤ most_name → Low c.name → sized k (bytes_in k c) ≡ ok c
unfolding card_body
sized_formed k fits c held column short low =
    let w = k.width in
    let below = leb-true c.position k.high (and_true_both (leb k.low c.position) (leb c.position k.high) held).1 in
    let position : num_at w (bytes_in k c) position_place ≡ c.position = num_at_num_bytes w c.position (k.number ∷ []) (rest_bytes c) ∙ mod-eq_of_lt (omega (arith, below, fits)) in
    let rest : drop (type_place k) (bytes_in k c) ≡ rest_bytes c = drop_at (k.number ∷ num_bytes w c.position) (rest_bytes c) (type_place k) (omega (arith, length-num_bytes w c.position)) in
    rw (eq-eqb _ _ (bytes_size k c short), position, held, rest) (rest_formed (type_place k) c column short low)

pub encodes→form : (c : Card) → GoodCard c → card_form (card_bytes c) ≡ ok c
unfolding card_form
encodes→form c g = go (leb c.position near.high) g.held
  where
    go : (t : Bool) → holds (pick t near far) c.position ≡ true → card_form (bytes_in (pick t near far) c) ≡ ok c
    go true h = sized_formed near (omega arith) c h g.column g.short g.low
    go false h = sized_formed far (omega arith) c h g.column g.short g.low

-- ---- what is well-formed is the bytes of a good card
went : (t : Bool) {r : Option ℕ} (k : ℕ) → pick t r (some k) ≡ none → (t ≡ true) × (r ≡ none)
went true k e = (refl, e)
went false k e = absurd (let z : ◌≡◌ {A = ℕ} 0 1 = cc in omega arith)

zeros_back : (size k : ℕ) (bs : List ℕ) → size ≤ k → wrong_from size k bs ≡ none → bs ≡ replicate (length bs) 0
unfolding wrong_from
zeros_back size k [] h e = refl
zeros_back size k (b ∷ bs) h e =
    let w = went (eqb b 0) k (rw (le-ltb k size h) at e) in
    ap₂ ◌∷◌ (eqb-true b 0 w.0) (zeros_back size (k + 1) bs (omega arith) w.1)

name_back : (size k j : ℕ) (bs : List ℕ) → size ≡ k + j → j ≤ length bs → wrong_from size k bs ≡ none → Low (take j bs) × (bs ≡ take j bs ++ replicate (length bs - j) 0)
unfolding wrong_from
name_back size k zero bs e h f = let z : length bs - 0 ≡ length bs = omega arith in (tt, rw z (zeros_back size k bs (omega arith) f))
name_back size k (suc j) [] e h f = absurd (omega arith)
name_back size k (suc j) (b ∷ bs) e h f =
    let w = went (leb b most_byte) k (rw (lt-ltb k size (omega arith)) at f) in
    let others = name_back size (k + 1) j bs (omega arith) (omega arith) w.1 in
    let z : suc (length bs) - suc j ≡ length bs - j = omega arith in
    ((leb-true b most_byte w.0, others.0), rw z (ap (λ (l : List ℕ). b ∷ l) others.1))

two : (bs : List ℕ) → 2 ≤ length bs → bs ≡ get_or bs 0 0 ∷ get_or bs 1 0 ∷ drop 2 bs
two [] h = absurd (omega arith)
two (a ∷ []) h = absurd (omega arith)
two (a ∷ b ∷ bs) h = refl

said : (o : Option ℕ) (at : ℕ) {x c : Card} → unless o at x ≡ ok c → (o ≡ none) × (x ≡ c)
said none at e = (refl, ok_same e)
said (some k) at e = absurd (no_ok e)

-- what bytes from the type on are that say a card
pub record Rest (p : ℕ) (bs : List ℕ) (c : Card) : Type 0 where
  pub position : c.position ≡ p
  pub column : is_column c.type ≡ true
  pub short : length c.name ≤ most_name
  pub low : Low c.name
  pub bytes : bs ≡ rest_bytes c

rest_says : (at p : ℕ) (bs : List ℕ) (c : Card) → length bs ≡ rest_size → card_rest at p bs ≡ ok c → Rest p bs c
unfolding card_rest
rest_says at p bs c whole e =
    let t = passed (is_column (get_or bs 0 0)) CardForm at e in
    let n = passed (leb (get_or bs 1 0) most_name) CardForm (at + 1) t.1 in
    let w = said (wrong_from (get_or bs 1 0) 0 (drop 2 bs)) (at + 2) n.1 in
    let size = get_or bs 1 0 in
    let rest = drop 2 bs in
    let short : size ≤ most_name = leb-true size most_name n.0 in
    let long : length rest ≡ most_name = length-drop 2 bs ∙ omega arith in
    let b = name_back size 0 size rest (omega arith) (omega arith) w.0 in
    let named : length (take size rest) ≡ size = length-take-le size rest (omega arith) in
    rw (← w.1) (record {
      position = refl;
      column = t.0;
      short = rw named short;
      low = b.0;
      bytes = rw (named, ← long) (two bs (omega arith) ∙ ap (λ (l : List ℕ). get_or bs 0 0 ∷ size ∷ l) b.1);
    })

-- what bytes of a kind are that say a card
pub record Sized (k : Kind) (bs : List ℕ) (c : Card) : Type 0 where
  pub size : length bs ≡ card_size k
  pub held : holds k c.position ≡ true
  pub rest : Rest (position_in k bs) (drop (type_place k) bs) c

pub sized_says : (k : Kind) (bs : List ℕ) (c : Card) → sized k bs ≡ ok c → Sized k bs c
unfolding card_body
sized_says k bs c e =
    let s = passed (eqb (length bs) (card_size k)) CardForm _ e in
    let p = passed (holds k (position_in k bs)) CardForm position_place s.1 in
    let size : length bs ≡ card_size k = eqb-true (length bs) (card_size k) s.0 in
    let rest = rest_says (type_place k) (position_in k bs) (drop (type_place k) bs) c (length-drop (type_place k) bs ∙ omega arith) p.1 in
    record { size = size; held = rw rest.position p.0; rest = rest }

-- a well-formed card is of the kind of its position
pub record Formed (bs : List ℕ) (c : Card) : Type 0 where
  pub first : get_or bs 0 0 ≡ (kind_of c.position).number
  pub says : Sized (kind_of c.position) bs c

pub formed : (bs : List ℕ) (c : Card) → card_form bs ≡ ok c → Formed bs c
unfolding card_form
formed bs c e = go (eqb (get_or bs 0 0) near.number) (eqb (get_or bs 0 0) far.number) refl refl e
  where
    of_kind : (k : Kind) → kind_of c.position ≡ k → get_or bs 0 0 ≡ k.number → Sized k bs c → Formed bs c
    of_kind k is first s = record { first = rw is first; says = rw is s }

    go : (a b : Bool) → eqb (get_or bs 0 0) near.number ≡ a → eqb (get_or bs 0 0) far.number ≡ b → pick a (sized near bs) (pick b (sized far bs) (no CardForm 0)) ≡ ok c → Formed bs c
    go true b x y e = let s = sized_says near bs c e in of_kind near (kind_near c.position s.held) (eqb-true _ _ x) s
    go false true x y e = let s = sized_says far bs c e in of_kind far (kind_far c.position s.held) (eqb-true _ _ y) s
    go false false x y e = absurd (no_ok e)

sized_bytes : (k : Kind) (bs : List ℕ) → Bytes bs → (c : Card) → get_or bs 0 0 ≡ k.number → Sized k bs c → bs ≡ bytes_in k c
sized_bytes k [] all c first s = absurd (omega (arith, s.size))
sized_bytes k (b ∷ bs) all c first s =
    let w = k.width in
    let position : num_bytes w c.position ≡ take w bs = ap (num_bytes w) s.rest.position ∙ num_bytes_num_at w (b ∷ bs) all position_place (omega (arith, s.size)) in
    let place : suc w ≡ type_place k = omega arith in
    let rest : drop w bs ≡ rest_bytes c = ap (λ (n : ℕ). drop n (b ∷ bs)) place ∙ s.rest.bytes in
    ap₂ ◌∷◌ first (sym (ap₂ ◌++◌ position (sym rest) ∙ take-append-drop w bs))

pub form→encodes : (bs : List ℕ) → Bytes bs → (c : Card) → card_form bs ≡ ok c → GoodCard c × (bs ≡ card_bytes c)
form→encodes bs all c e =
    let f = formed bs c e in
    let r = f.says.rest in (
      record { held = f.says.held; column = r.column; short = r.short; low = r.low },
      sized_bytes (kind_of c.position) bs all c f.first f.says,
    )

-- a card has one form
pub form_once : (a b : List ℕ) → Bytes a → Bytes b → (c : Card) → card_form a ≡ ok c → card_form b ≡ ok c → a ≡ b
form_once a b x y c e f = (form→encodes a x c e).1 ∙ sym (form→encodes b y c f).1

-- ---- where a well-formed card's name stands in it
pub name_in : (bs : List ℕ) (c : Card) → card_form bs ≡ ok c
    → (name_place (kind_of c.position) + length c.name ≤ length bs) × (take (length c.name) (drop (name_place (kind_of c.position)) bs) ≡ c.name)
name_in bs c e =
    let s = (formed bs c e).says in
    let k = kind_of c.position in
    let n = length c.name in
    let name : drop (name_place k) bs ≡ c.name ++ replicate (most_name - n) 0 = sym (drop-drop 2 (type_place k) bs) ∙ ap (drop 2) s.rest.bytes in
    (omega (arith, s.size, s.rest.short), rw name (take_at c.name (replicate (most_name - n) 0) n refl))

-- ---- the form, test by test
module _ (bs : List ℕ) where
  pub is_near : get_or bs 0 0 ≡ near.number → card_form bs ≡ sized near bs
  unfolding card_form
  is_near e = rw (eq-eqb _ _ e)

  module _ (other : get_or bs 0 0 ≡ near.number → ⊥) where
    pub is_far : get_or bs 0 0 ≡ far.number → card_form bs ≡ sized far bs
    unfolding card_form
    is_far e = rw (ne_eqb _ _ other, eq-eqb _ _ e)

    pub no_kind : (get_or bs 0 0 ≡ far.number → ⊥) → card_form bs ≡ no CardForm 0
    unfolding card_form
    no_kind n = rw (ne_eqb _ _ other, ne_eqb _ _ n)

  module _ (k : Kind) where
    pub other_size : (length bs ≡ card_size k → ⊥) → sized k bs ≡ no CardForm (min (length bs) (card_size k))
    other_size n = rw (ne_eqb _ _ n)

    module _ (size : length bs ≡ card_size k) where
      pub not_held : holds k (position_in k bs) ≡ false → sized k bs ≡ no CardForm position_place
      unfolding card_body
      not_held h = rw (eq-eqb _ _ size, h)

      pub is_held : holds k (position_in k bs) ≡ true → sized k bs ≡ card_rest (type_place k) (position_in k bs) (drop (type_place k) bs)
      unfolding card_body
      is_held h = rw (eq-eqb _ _ size, h)

module _ (at p : ℕ) (bs : List ℕ) where
  pub no_column : is_column (get_or bs 0 0) ≡ false → card_rest at p bs ≡ no CardForm at
  unfolding card_rest
  no_column e = rw e

  module _ (column : is_column (get_or bs 0 0) ≡ true) where
    pub long_name : most_name < get_or bs 1 0 → card_rest at p bs ≡ no CardForm (at + 1)
    unfolding card_rest
    long_name h = rw (column, lt-leb _ _ h)

    module _ (short : get_or bs 1 0 ≤ most_name) where
      pub wrong_name : (k : ℕ) → wrong_from (get_or bs 1 0) 0 (drop 2 bs) ≡ some k → card_rest at p bs ≡ no CardForm (at + 2 + k)
      unfolding card_rest
      wrong_name k e = rw (column, le-leb _ _ short, e)

      pub right_name : length bs ≡ rest_size → wrong_from (get_or bs 1 0) 0 (drop 2 bs) ≡ none → shown_form (card_rest at p bs) ≡ Ok (p, get_or bs 0 0, get_or bs 1 0)
      unfolding card_rest
      right_name whole e =
          let size : length (take (get_or bs 1 0) (drop 2 bs)) ≡ get_or bs 1 0 = length-take-le (get_or bs 1 0) (drop 2 bs) (omega (arith, length-drop 2 bs)) in
          rw (column, le-leb _ _ short, e, size)

-- the position, as it is read
pub position_read : (k : Kind) (bs : List ℕ) (n : ℕ) → length bs ≡ card_size k → n ≡ number_in (shown ((number (min k.width 8) 0).read bs position_place)) → n ≡ position_in k bs
unfolding number
position_read k bs n size e =
    let w = k.width in
    let whole : min w 8 ≡ w = min-eq_left k.narrow in
    let stands : leb (position_place + w) (length bs) ≡ true = le-leb (position_place + w) (length bs) (omega (arith, size)) in
    number_stands {r = (number (min w 8) 0).read bs position_place} e (num_at w bs position_place) (position_place + w) (rw (whole, stands))

-- what stands after a place is what is left from there
pub left_over : (n : ℕ) (bs : List ℕ) → take (length bs - n) (drop n bs) ≡ drop n bs
left_over n bs = take_all (length bs - n) (drop n bs) (le_of_eq (length-drop n bs))

-- ---- a form is refused 12, and nothing else
abbrev OnlyForm : Res Card → Type 0
OnlyForm r = (f : Fault) (p : ℕ) → r ≡ no f p → f ≡ CardForm

only_no : (p : ℕ) → OnlyForm (no CardForm p)
only_no p f q e = cc

only_pick : (t : Bool) {r q : Res Card} → OnlyForm r → OnlyForm q → OnlyForm (pick t r q)
only_pick true h i = h
only_pick false h i = i

only_rest : (at p : ℕ) (bs : List ℕ) → OnlyForm (card_rest at p bs)
unfolding card_rest
only_rest at p bs = only_pick (is_column (get_or bs 0 0)) (only_pick (leb (get_or bs 1 0) most_name) (by_name (wrong_from (get_or bs 1 0) 0 (drop 2 bs)) _) (only_no (at + 1))) (only_no at)
  where
    by_name : (o : Option ℕ) (c : Card) → OnlyForm (unless o (at + 2) c)
    by_name none c = λ f q e. absurd (no_ok (sym e))
    by_name (some k) c = only_no (at + 2 + k)

only_sized : (k : Kind) (bs : List ℕ) → OnlyForm (sized k bs)
unfolding card_body
only_sized k bs =
    only_pick (eqb (length bs) (card_size k))
    (only_pick (holds k (position_in k bs)) (only_rest (type_place k) (position_in k bs) (drop (type_place k) bs)) (only_no position_place))
    (only_no (min (length bs) (card_size k)))

pub form_fault : (bs : List ℕ) (f : Fault) (p : ℕ) → card_form bs ≡ no f p → f ≡ CardForm
unfolding card_form
form_fault bs = only_pick (eqb (get_or bs 0 0) near.number) (only_sized near bs) (only_pick (eqb (get_or bs 0 0) far.number) (only_sized far bs) (only_no 0))

-- ---- what the form says of what is asked of a card
pub form_no : (r : Res Card) {x : Refusal} {f : Result (ℕ × ℕ × ℕ) Refusal} → f ≡ shown_form r → f ≡ Err x → r ≡ no x.fault x.place
form_no (ok c) e told = absurd (let z : ◌≡◌ {A = ℕ} 0 1 = cc in omega arith)
form_no (no g p) e told = cc

pub record Says (r : Res Card) (p w n : ℕ) : Type 0 where
  pub card : Card
  pub formed : r ≡ ok card
  pub position : card.position ≡ p
  pub type : card.type ≡ w
  pub size : length card.name ≡ n

pub form_is : (r : Res Card) {p w n : ℕ} {f : Result (ℕ × ℕ × ℕ) Refusal} → f ≡ shown_form r → f ≡ Ok (p, w, n) → Says r p w n
form_is (ok c) {p} {w} {n} e told =
    let same : ◌≡◌ {A = ℕ × ℕ × ℕ} (c.position, c.type, length c.name) (p, w, n) = cc in
    let position : c.position ≡ p = ap (λ (v : ℕ × ℕ × ℕ). v.0) same in
    let type : c.type ≡ w = ap (λ (v : ℕ × ℕ × ℕ). v.1) same in
    let size : length c.name ≡ n = ap (λ (v : ℕ × ℕ × ℕ). v.2) same in
    record { card = c; formed = refl; position = position; type = type; size = size }
form_is (no g p) e told = absurd (let z : ◌≡◌ {A = ℕ} 0 1 = cc in omega arith)

module _ {A : Type 0} (m : List ℕ) (t : ℕ) (bs : List ℕ) (ask : Table → Card → Res A) where
  pub unformed : {r x : Refusal} → card_form bs ≡ no r.fault r.place → x ≡ own_before (read_message 4 m) r → no x.fault x.place ≡ of_card m t bs ask
  unformed {r} {x} e is = rw (is, e) (by_message (read_message 4 m))
    where
      by_message : (z : Res Message) → ◌≡◌ {A = Res A} (no (own_before z r).fault (own_before z r).place) (bind z (λ y. no r.fault r.place))
      by_message (ok y) = refl
      by_message (no f p) = refl

  module _ {p w n : ℕ} (s : Says (card_form bs) p w n) where
    abbrev start : ℕ
    start = name_place (kind_of p)

    same_start : name_place (kind_of s.card.position) ≡ start
    same_start = ap (λ (z : ℕ). name_place (kind_of z)) s.position

    pub name_fits : start + n ≤ length bs
    name_fits = omega (arith, (name_in bs s.card s.formed).0, same_start, s.size)

    same_card : {a b c d : ℕ} {x y : List ℕ} → a ≡ b → c ≡ d → x ≡ y → a_card a c x ≡ a_card b d y
    same_card e f g = rw (e, f, g)

    pub asks_as : (at : ℕ) → at ≡ start → of_table true m t (λ z b. ask b (a_card p w (take (at + n - at) (drop at bs)))) ≡ of_card m t bs ask
    asks_as at is =
        let part : take (at + n - at) (drop at bs) ≡ s.card.name
        = ap₂ (λ (k j : ℕ). take k (drop j bs)) (add-sub_cancel_left at n ∙ sym s.size) (is ∙ sym same_start) ∙ (name_in bs s.card s.formed).1 in
        let card : a_card p w (take (at + n - at) (drop at bs)) ≡ s.card = same_card (sym s.position) (sym s.type) part in
        ap (λ (c : Card). of_table true m t (λ z b. ask b c)) card ∙ sym (ap (λ (z : Res Card). bind (read_message 4 m) (λ r. bind z (λ c. bind (entry (tables_of r) t) (λ b. ask b c)))) s.formed)
