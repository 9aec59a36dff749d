-- `cards::read_card` meets its contract: the kind decides, and then the card is read as one of its kind. Assumes nothing.
use Rattle.std.specs.Prelude.{Err, Option as Maybe, slice_get}
use Rattle.std.specs.Option.{unwrap_or}
use Prim.Native.Nat.{ℕ}
use mathlib.Core.Path.{◌≡◌, refl, ◌∙◌, sym, ap}
use mathlib.Core.List.{List, [], ◌∷◌}
use lib.ListN.{get_or}
use Rattle.cards.specs.declared.kind.Kind.{Kind}
use Rattle.cards.specs.Card.{near, far, sized}
use Rattle.cards.specs.Shown.{shown_form}
use Rattle.cards.proofs.Forms.{same_kind, is_near, is_far, no_kind}
use Rattle.cards.proofs.read_card.Goals as goal

first_byte : (bs : List ℕ) {o : Maybe ℕ} {b : ℕ} → o ≡ slice_get bs 0 → b ≡ unwrap_or o 0 → b ≡ get_or bs 0 0
first_byte [] e f = rw e at f
first_byte (b ∷ bs) e f = rw e at f

pub returns-then-first : goal.returns-then-first
returns-then-first c =
    let a = c.args in
    let first = first_byte a.card.now (c.copied.ensures ∙ c.first.ensures.value) c.unwrap_or-first.ensures in
    c.read_sized.ensures ∙ ap (λ (k : Kind). shown_form (sized k a.card.now)) (same_kind near refl _) ∙ sym (ap shown_form (is_near a.card.now (sym first ∙ c.if-first.true)))

pub returns-then-first-2 : goal.returns-then-first-2
returns-then-first-2 c =
    let a = c.args in
    let first = first_byte a.card.now (c.copied.ensures ∙ c.first.ensures.value) c.unwrap_or-first.ensures in
    c.read_sized-then-first-2.ensures ∙ ap (λ (k : Kind). shown_form (sized k a.card.now)) (same_kind far refl _) ∙ sym (ap shown_form (is_far a.card.now (λ e. c.if-first.false (first ∙ e)) (sym first ∙ c.if-first-2.true)))

pub returns : goal.returns
returns c =
    let a = c.args in
    let first = first_byte a.card.now (c.copied.ensures ∙ c.first.ensures.value) c.unwrap_or-first.ensures in
    ap Err c.wrong.ensures ∙ sym (ap shown_form (no_kind a.card.now (λ e. c.if-first.false (first ∙ e)) (λ e. c.if-first-2.false (first ∙ e))))
