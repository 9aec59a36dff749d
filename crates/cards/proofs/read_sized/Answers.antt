-- `cards::read_sized` meets its contract: its size, its position and the rest are asked in the definition's order. Assumes nothing.
use Rattle.std.specs.Prelude.{Err}
use mathlib.Core.Path.{◌∙◌, sym, ap, ap₂}
use Prim.Native.Nat.{ℕ}
use mathlib.Core.List.{List}
use borrow.Author.Tests.{not-true, not-false}
use Rattle.cards.specs.Card.{holds, card_rest, type_place}
use Rattle.cards.specs.Shown.{shown_form}
use Rattle.cards.proofs.Forms.{not_held, is_held, left_over, position_read}
use Rattle.cards.proofs.read_sized.Goals as goal

pub returns-then-not-is_held : goal.returns-then-not-is_held
returns-then-not-is_held c =
    let a = c.args in
    let whole = c.if-card-size.false ∙ c.size_of-size.ensures in
    let position = position_read a.kind a.card.now _ whole c.number_at-position.ensures in
    let held = ap (holds a.kind) (sym position) ∙ sym c.is_held.ensures ∙ not-true _ c.if-not-is_held.true-raw in
    ap Err c.wrong-then-not-is_held.ensures ∙ sym (ap shown_form (not_held a.card.now a.kind whole held))

pub returns : goal.returns
returns c =
    let a = c.args in
    let whole = c.if-card-size.false ∙ c.size_of-size.ensures in
    let position = position_read a.kind a.card.now _ whole c.number_at-position.ensures in
    let held = ap (holds a.kind) (sym position) ∙ sym c.is_held.ensures ∙ not-false _ c.if-not-is_held.false-raw in
    let at = type_place a.kind in
    c.read_rest.ensures
    ∙ ap₂ (λ (p : ℕ) (bs : List ℕ). shown_form (card_rest at p bs)) position (left_over at a.card.now)
    ∙ sym (ap shown_form (is_held a.card.now a.kind whole held))
