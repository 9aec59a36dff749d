-- The reason that is told is the true one, that a card fits is told exactly if it opens, and where its type and name are told to stand, the first such
-- column does.
use Prim.Native.Nat.{ℕ, zero, suc, ◌+◌, ◌≤◌, ◌<◌}
use mathlib.Core.Path.{◌≡◌, refl, sym, ◌∙◌, ap}
use mathlib.Core.Bool.{Bool, true, false, not, true≢false, false≢true}
use mathlib.Core.List.{List}
use mathlib.Core.Logic.{◌⊎◌, inl, inr, ⊎_elim}
use mathlib.Core.Option.{Option, some, none}
use lib.ListN.{length}
use lib.Dec.{ltb}
use native.Mathlib.Nat.{eq-or-lt_of_le}
use native.Mathlib.Omega.{arith}
use borrow.Author.Tests.{leb-true, leb-false, ltb-true, ltb-false, lt-leb, eqb-true, eq-eqb, not-true, not-false}
use Rattle.std.specs.Prelude.{Result, Ok, Err, Option as Maybe, Some, None}
use Rattle.format.specs.declared.Fault.{Fault}
use Rattle.format.specs.declared.Fault.TheVariants.{Stale}
use Rattle.format.specs.declared.Refusal.{Refusal}
use Rattle.format.specs.Result.{Res, ok, no, bind, pick}
use Rattle.format.specs.Message.{Table, Message, read_message}
use Rattle.format.proofs.Decides.{once, answer}
use Rattle.format.proofs.Results.{ok_same, no_ok}
use Rattle.places.specs.Places.{tables_of}
use Rattle.places.specs.Entries.{entry}
use Rattle.places.proofs.Lists.{entry_below}
use Rattle.query.proofs.Names.{same_yes, same_true}
use Rattle.cards.specs.declared.Reason.{Reason}
use Rattle.cards.specs.declared.Fit.{Fit}
use Rattle.cards.specs.Card.{Card, a_card, card_form}
use Rattle.cards.specs.Answers.{fits, opened, ask_open}
use Rattle.cards.specs.Reasons.{reason_number, Fact, is_type, is_name, fact_holds, reason_of, first_from, stands_at, why_not, fit_of, ask_fit, told_place, told_fit}
use Rattle.cards.proofs.Theorems.{column_fits, fits_column}

-- ---- a test says its fact
type_is : (type : ℕ) (r : Res ℕ) → is_type type r ≡ true → r ≡ ok type
type_is type (ok t) e = ap ok (eqb-true t type e)
type_is type (no f p) e = absurd (false≢true e)

type_yes : (type : ℕ) (r : Res ℕ) → r ≡ ok type → is_type type r ≡ true
type_yes type r e = rw e (eq-eqb type type refl)

name_is : (name : List ℕ) (r : Res (Option (List ℕ))) → is_name name r ≡ true → r ≡ ok (some name)
name_is name (ok none) e = absurd (false≢true e)
name_is name (ok (some bs)) e = ap (λ (z : List ℕ). ok (some z)) (same_true bs name e)
name_is name (no f p) e = absurd (false≢true e)

name_yes : (name : List ℕ) (r : Res (Option (List ℕ))) → r ≡ ok (some name) → is_name name r ≡ true
name_yes name r e = rw e (same_yes name)

module _ (b : Table) (c : Card) where
  abbrev typed : Res ℕ
  typed = entry b.metadata.types c.position

  abbrev named : Res (Option (List ℕ))
  named = entry b.metadata.names c.position

  test_fact : (r : Reason) → fact_holds b c r ≡ true → Fact b c r
  test_fact Reason.Past e = leb-true _ _ e
  test_fact Reason.OtherType e = λ is. true≢false (sym (type_yes c.type typed is) ∙ not-true _ e)
  test_fact Reason.OtherName e = λ is. true≢false (sym (name_yes c.name named is) ∙ not-true _ e)

  test_not : (r : Reason) → fact_holds b c r ≡ false → Fact b c r → ⊥
  test_not Reason.Past e h = absurd (omega (arith, leb-false (length b.metadata.types) c.position e))
  test_not Reason.OtherType e h = h (type_is c.type typed (not-false _ e))
  test_not Reason.OtherName e h = h (name_is c.name named (not-false _ e))

  fact_test : (r : Reason) → Fact b c r → fact_holds b c r ≡ true
  fact_test r h = go (fact_holds b c r) refl
    where
      go : (t : Bool) → fact_holds b c r ≡ t → t ≡ true
      go true e = refl
      go false e = absurd (test_not r e h)

  not_test : (r : Reason) → (Fact b c r → ⊥) → fact_holds b c r ≡ false
  not_test r h = go (fact_holds b c r) refl
    where
      go : (t : Bool) → fact_holds b c r ≡ t → t ≡ false
      go true e = absurd (h (test_fact r e))
      go false e = refl

  -- ---- a reason is given exactly when its fact holds and none before it does
  pub record Truly (r : Reason) : Type 0 where
    pub holds_so : Fact b c r
    pub none_before : (q : Reason) → reason_number q < reason_number r → Fact b c q → ⊥

  past_truly : fact_holds b c Reason.Past ≡ true → Truly Reason.Past
  past_truly e = record { holds_so = test_fact Reason.Past e; none_before = elim [ Reason.Past ↦ λ l. absurd (omega arith) | Reason.OtherType ↦ λ l. absurd (omega arith) | Reason.OtherName ↦ λ l. absurd (omega arith) ] }

  type_truly : fact_holds b c Reason.Past ≡ false → fact_holds b c Reason.OtherType ≡ true → Truly Reason.OtherType
  type_truly e f = record { holds_so = test_fact Reason.OtherType f; none_before = elim [ Reason.Past ↦ λ l. test_not Reason.Past e | Reason.OtherType ↦ λ l. absurd (omega arith) | Reason.OtherName ↦ λ l. absurd (omega arith) ] }

  name_truly : fact_holds b c Reason.Past ≡ false → fact_holds b c Reason.OtherType ≡ false → fact_holds b c Reason.OtherName ≡ true → Truly Reason.OtherName
  name_truly e f g = record { holds_so = test_fact Reason.OtherName g; none_before = elim [ Reason.Past ↦ λ l. test_not Reason.Past e | Reason.OtherType ↦ λ l. test_not Reason.OtherType f | Reason.OtherName ↦ λ l. absurd (omega arith) ] }

  same_reason : {q r : Reason} → some q ≡ some r → Truly q → Truly r
  same_reason {q} {r} e w = let same : q ≡ r = cc in rw (← same) w

  pub reason→truly : (r : Reason) → reason_of b c ≡ some r → Truly r
  unfolding reason_of
  reason→truly r e = go (fact_holds b c Reason.Past) (fact_holds b c Reason.OtherType) (fact_holds b c Reason.OtherName) refl refl refl e
    where
      go : (x y z : Bool) → fact_holds b c Reason.Past ≡ x → fact_holds b c Reason.OtherType ≡ y → fact_holds b c Reason.OtherName ≡ z
          → pick x (some Reason.Past) (pick y (some Reason.OtherType) (pick z (some Reason.OtherName) none)) ≡ some r → Truly r
      go true y z p q s e = same_reason e (past_truly p)
      go false true z p q s e = same_reason e (type_truly p q)
      go false false true p q s e = same_reason e (name_truly p q s)
      go false false false p q s e = absurd (let z : ◌≡◌ {A = ℕ} 0 1 = cc in omega arith)

  pub truly→reason : (r : Reason) → Truly r → reason_of b c ≡ some r
  unfolding reason_of
  truly→reason Reason.Past w = rw (fact_test Reason.Past w.holds_so)
  truly→reason Reason.OtherType w = rw (not_test Reason.Past (w.none_before Reason.Past (omega arith)), fact_test Reason.OtherType w.holds_so)
  truly→reason Reason.OtherName w = rw (not_test Reason.Past (w.none_before Reason.Past (omega arith)), not_test Reason.OtherType (w.none_before Reason.OtherType (omega arith)), fact_test Reason.OtherName w.holds_so)

  -- ---- and none is given exactly if the card fits
  pub fits→none : fits b c ≡ true → reason_of b c ≡ none
  unfolding reason_of
  fits→none h =
      let w = fits_column b c h in
      rw (lt-leb _ _ (entry_below b.metadata.types c.position w.0), type_yes c.type typed w.0, name_yes c.name named w.1)

  pub none→fits : reason_of b c ≡ none → fits b c ≡ true
  unfolding reason_of
  none→fits e = go (fact_holds b c Reason.Past) (is_type c.type typed) (is_name c.name named) refl refl e
    where
      go : (x y z : Bool) → is_type c.type typed ≡ y → is_name c.name named ≡ z
          → pick x (some Reason.Past) (pick (not y) (some Reason.OtherType) (pick (not z) (some Reason.OtherName) none)) ≡ none → fits b c ≡ true
      go true y z p q e = absurd (let z : ◌≡◌ {A = ℕ} 0 1 = cc in omega arith)
      go false false z p q e = absurd (let z : ◌≡◌ {A = ℕ} 0 1 = cc in omega arith)
      go false true false p q e = absurd (let z : ◌≡◌ {A = ℕ} 0 1 = cc in omega arith)
      go false true true p q e = column_fits b c (type_is c.type typed p) (name_is c.name named q)

  some_told : (r : Option Reason) (i : Option ℕ) → (r ≡ none → ⊥) → (w : Reason × Option ℕ) × (why_not r i ≡ some w)
  some_told none i n = absurd (n refl)
  some_told (some r) i n = ((r, i), refl)

  none_told : (r : Option Reason) (i : Option ℕ) → why_not r i ≡ none → r ≡ none
  none_told none i e = refl
  none_told (some r) i e = absurd (let z : ◌≡◌ {A = ℕ} 0 1 = cc in omega arith)

  reason_told : (r : Option Reason) (i : Option ℕ) {w : Reason × Option ℕ} → why_not r i ≡ some w → r ≡ some w.0
  reason_told none i e = absurd (let z : ◌≡◌ {A = ℕ} 0 1 = cc in omega arith)
  reason_told (some r) i {w} e = let same : (r, i) ≡ w = cc in ap (λ (z : Reason × Option ℕ). some z.0) same

-- ---- what is told beside opening, of every message, table and card
module _ (m : List ℕ) (t : ℕ) (bs : List ℕ) where
  -- both calls refuse alike, before the card is held against the table
  by_card : (P : Res (Option (Reason × Option ℕ)) → Res ℕ → Type 0) → ((f : Fault) (p : ℕ) → P (no f p) (no f p)) → ((b : Table) (c : Card) → P (ok (fit_of b c)) (opened b c)) → P (ask_fit m t bs) (ask_open m t bs)
  by_card P refused found = by_message (read_message 4 m)
    where
      by_table : (c : Card) (r : Res Table) → P (bind r (λ b. ok (fit_of b c))) (bind r (λ b. opened b c))
      by_table c (ok b) = found b c
      by_table c (no f p) = refused f p

      by_form : (r : Message) (z : Res Card) → P (bind z (λ c. bind (entry (tables_of r) t) (λ b. ok (fit_of b c)))) (bind z (λ c. bind (entry (tables_of r) t) (λ b. opened b c)))
      by_form r (ok c) = by_table c (entry (tables_of r) t)
      by_form r (no f p) = refused f p

      by_message : (z : Res Message) → P (bind z (λ r. bind (card_form bs) (λ c. bind (entry (tables_of r) t) (λ b. ok (fit_of b c))))) (bind z (λ r. bind (card_form bs) (λ c. bind (entry (tables_of r) t) (λ b. opened b c))))
      by_message (ok r) = by_form r (card_form bs)
      by_message (no f p) = refused f p

  pub fitting→opens : ask_fit m t bs ≡ ok none → (i : ℕ) × (ask_open m t bs ≡ ok i)
  fitting→opens = by_card (λ x y. x ≡ ok none → (i : ℕ) × (y ≡ ok i)) (λ f p e. absurd (no_ok e))
      (λ b c e. (c.position, ap (λ (z : Bool). pick z (ok c.position) (no Stale 0)) (none→fits b c (none_told b c (reason_of b c) _ (ok_same e)))))

  pub opens→fitting : (i : ℕ) → ask_open m t bs ≡ ok i → ask_fit m t bs ≡ ok none
  opens→fitting i = by_card (λ x y. y ≡ ok i → x ≡ ok none) (λ f p e. absurd (no_ok e)) (λ b c e. by_fit b c (fits b c) refl e)
    where
      by_fit : (b : Table) (c : Card) (z : Bool) → fits b c ≡ z → pick z (ok c.position) (no Stale 0) ≡ ok i → ok (fit_of b c) ≡ ok none
      by_fit b c true h e = ap (λ (r : Option Reason). ok (why_not r (stands_at b c.type c.name))) (fits→none b c h)
      by_fit b c false h e = absurd (no_ok e)

  pub reason→stale : (w : Reason × Option ℕ) → ask_fit m t bs ≡ ok (some w) → ask_open m t bs ≡ no Stale 0
  reason→stale w = by_card (λ x y. x ≡ ok (some w) → y ≡ no Stale 0) (λ f p e. absurd (no_ok e)) (λ b c e. by_fit b c (fits b c) refl e)
    where
      by_fit : (b : Table) (c : Card) (z : Bool) → fits b c ≡ z → ok (fit_of b c) ≡ ok (some w) → pick z (ok c.position) (no Stale 0) ≡ no Stale 0
      by_fit b c true h e = absurd (let z : ◌≡◌ {A = Option Reason} none (some w.0) = sym (fits→none b c h) ∙ reason_told b c (reason_of b c) _ (ok_same e) in let y : ◌≡◌ {A = ℕ} 0 1 = cc in omega arith)
      by_fit b c false h e = refl

  -- a refusal for which no reason is told is one that both calls give
  pub refused→reason : {f : Fault} {p : ℕ} → ask_open m t bs ≡ no f p → ((w : Reason × Option ℕ) × (ask_fit m t bs ≡ ok (some w))) ⊎ (ask_fit m t bs ≡ no f p)
  refused→reason {f} {p} = by_card (λ x y. y ≡ no f p → ((w : Reason × Option ℕ) × (x ≡ ok (some w))) ⊎ (x ≡ no f p)) (λ g q e. inr (let fault : g ≡ f = cc in let place : q ≡ p = cc in rw (fault, place)))
      (λ b c e. by_fit b c (fits b c) refl e)
    where
      by_fit : (b : Table) (c : Card) (z : Bool) → fits b c ≡ z → pick z (ok c.position) (no Stale 0) ≡ no f p → ((w : Reason × Option ℕ) × (ok (fit_of b c) ≡ ok (some w))) ⊎ (ok (fit_of b c) ≡ no f p)
      by_fit b c true h e = absurd (no_ok (sym e))
      by_fit b c false h e = let w = some_told b c (reason_of b c) (stands_at b c.type c.name) (λ n. true≢false (sym (none→fits b c n) ∙ h)) in inl (w.0, ap ok w.1)

  pub refused_alike : {f : Fault} {p : ℕ} → ask_fit m t bs ≡ no f p → ask_open m t bs ≡ no f p
  refused_alike {f} {p} = by_card (λ x y. x ≡ no f p → y ≡ no f p) (λ g q e. let fault : g ≡ f = cc in let place : q ≡ p = cc in rw (fault, place)) (λ b c e. absurd (no_ok (sym e)))

-- ---- the first number that passes a test
module _ (test : ℕ → Bool) where
  pub record FirstFrom (i n j : ℕ) : Type 0 where
    pub from : i ≤ j
    pub below : j < i + n
    pub passes : test j ≡ true
    pub none_before : (k : ℕ) → i ≤ k → k < j → test k ≡ false

  first_from_lem : (i n : ℕ) {j : ℕ} → first_from test i n ≡ some j → FirstFrom i n j
  unfolding first_from
  first_from_lem i zero e = absurd (let z : ◌≡◌ {A = ℕ} 0 1 = cc in omega arith)
  first_from_lem i (suc n) {j} e = by_test (λ h. first_from_lem (i + 1) n h) (test i) refl e
    where
      by_test : (first_from test (i + 1) n ≡ some j → FirstFrom (i + 1) n j) → (t : Bool) → test i ≡ t → pick t (some i) (first_from test (i + 1) n) ≡ some j → FirstFrom i (suc n) j
      by_test others true is h = let same : i ≡ j = cc in record { from = omega arith; below = omega arith; passes = rw (← same) is; none_before = λ k a l. absurd (omega arith) }
      by_test others false is h =
          let w = others h in
          let from = w.from in
          let below = w.below in
          record { from = omega arith; below = omega arith; passes = w.passes; none_before = λ k a l. ⊎_elim (λ e. rw (← e) is) (λ later. w.none_before k (omega arith) l) (eq-or-lt_of_le a) }

  none_from : (i n : ℕ) → first_from test i n ≡ none → (k : ℕ) → i ≤ k → k < i + n → test k ≡ false
  unfolding first_from
  none_from i zero e k a l = absurd (omega arith)
  none_from i (suc n) e k a l = by_test (λ h j x y. none_from (i + 1) n h j x y) (test i) refl e
    where
      by_test : (first_from test (i + 1) n ≡ none → (j : ℕ) → i + 1 ≤ j → j < i + 1 + n → test j ≡ false) → (t : Bool) → test i ≡ t → pick t (some i) (first_from test (i + 1) n) ≡ none → test k ≡ false
      by_test others true is h = absurd (let z : ◌≡◌ {A = ℕ} 0 1 = cc in omega arith)
      by_test others false is h = ⊎_elim (λ e. rw (← e) is) (λ later. others h k (omega arith) (omega arith)) (eq-or-lt_of_le a)

-- ---- where a column of a type and name stands: the first that there is, or there is none
neither : (i j : ℕ) → (i < j → ⊥) → (j < i → ⊥) → i ≡ j
neither i j m n = go (ltb i j) refl
  where
    go : (t : Bool) → ltb i j ≡ t → i ≡ j
    go true e = absurd (m (ltb-true i j e))
    go false e = ⊎_elim (λ is. sym is) (λ l. absurd (n l)) (eq-or-lt_of_le (ltb-false i j e))

module _ (b : Table) (type : ℕ) (name : List ℕ) where
  -- a column has them
  abbrev Has : ℕ → Type 0
  Has k = (entry b.metadata.types k ≡ ok type) × (entry b.metadata.names k ≡ ok (some name))

  pub record FirstHas (i : ℕ) : Type 0 where
    pub has : Has i
    pub none_before : (k : ℕ) → k < i → Has k → ⊥

  abbrev test : ℕ → Bool
  test k = fits b (a_card k type name)

  has_test : (k : ℕ) → Has k → test k ≡ true
  has_test k h = column_fits b (a_card k type name) h.0 h.1

  pub stands→first : (i : ℕ) → stands_at b type name ≡ some i → FirstHas i
  unfolding stands_at
  stands→first i e =
      let w = first_from_lem test 0 (length b.metadata.types) e in
      record { has = fits_column b (a_card i type name) w.passes; none_before = λ k l h. true≢false (sym (has_test k h) ∙ w.none_before k (omega arith) l) }

  pub nowhere→none : stands_at b type name ≡ none → (k : ℕ) → Has k → ⊥
  unfolding stands_at
  nowhere→none e k h = let below = entry_below b.metadata.types k h.0 in true≢false (sym (has_test k h) ∙ none_from test 0 (length b.metadata.types) e k (omega arith) (omega arith))

  pub first→stands : (i : ℕ) → FirstHas i → stands_at b type name ≡ some i
  first→stands i w = go (stands_at b type name) refl
    where
      go : (r : Option ℕ) → stands_at b type name ≡ r → r ≡ some i
      go none e = absurd (nowhere→none e i w.has)
      go (some j) e = let v = stands→first j e in ap some (neither j i (λ l. w.none_before j l v.has) (λ l. v.none_before i l w.has))

  pub none→nowhere : ((k : ℕ) → Has k → ⊥) → stands_at b type name ≡ none
  none→nowhere n = go (stands_at b type name) refl
    where
      go : (r : Option ℕ) → stands_at b type name ≡ r → r ≡ none
      go none e = refl
      go (some j) e = absurd (n j (stands→first j e).has)

-- ---- the statement decides: two answers to one question are the same
abbrev place : Option ℕ → Maybe ℕ
place none = None
place (some i) = Some i

place_back : (x : Maybe ℕ) → place (told_place x) ≡ x
place_back (Some i) = refl
place_back None = refl

abbrev fit : Option (Reason × Option ℕ) → Fit
fit none = Fit.Fits
fit (some w) = Fit.Stale w.0 (place w.1)

pub fit_once : (a b : Result Fit Refusal) → told_fit a ≡ told_fit b → a ≡ b
fit_once = once told_fit (answer (λ w. Ok (fit w)) Err) (elim [ Ok Fit.Fits ↦ refl | Ok (Fit.Stale r x) ↦ ap (λ z. Ok (Fit.Stale r z)) (place_back x) | Err r ↦ refl ])
