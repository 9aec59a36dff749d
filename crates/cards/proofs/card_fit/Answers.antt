-- `cards::card_fit` meets its contract: a form that is broken comes after the message's own refusal; of one that is right it is told how it fits. Assumes nothing.
use Prim.Native.Nat.{ℕ}
use mathlib.Core.Option.{Option}
use mathlib.Core.Path.{◌∙◌}
use native.Mathlib.Omega.{arith}
use Rattle.format.specs.Result.{Res, ok}
use Rattle.format.specs.Message.{Table}
use Rattle.cards.specs.declared.Reason.{Reason}
use Rattle.cards.specs.Card.{Card}
use Rattle.cards.specs.Reasons.{fit_of}
use Rattle.cards.proofs.Forms.{form_no, form_is, unformed, name_fits, asks_as}
use Rattle.cards.proofs.card_fit.Goals as goal

abbrev asks : Table → Card → Res (Option (Reason × Option ℕ))
asks b c = ok (fit_of b c)

pub overflow_add-end : goal.overflow_add-end
overflow_add-end c =
    let a = c.args in
    omega (arith, c.name_at-start.ensures, name_fits a.m.now a.t a.card.now asks (form_is _ c.read_card.ensures c.in-Ok.is))

pub slice_bounds-name-end : goal.slice_bounds-name-end
slice_bounds-name-end c =
    let a = c.args in
    omega (arith, c.name_at-start.ensures, name_fits a.m.now a.t a.card.now asks (form_is _ c.read_card.ensures c.in-Ok.is))

pub returns-in-Err : goal.returns-in-Err
returns-in-Err c =
    let a = c.args in
    unformed a.m.now a.t a.card.now asks (form_no _ c.read_card.ensures c.in-Err.is) c.after_message.ensures

pub returns-in-Ok : goal.returns-in-Ok
returns-in-Ok c =
    let a = c.args in
    c.fit_at.ensures ∙ asks_as a.m.now a.t a.card.now asks (form_is _ c.read_card.ensures c.in-Ok.is) _ c.name_at-start.ensures
