-- `cards::open_card` meets its contract: a form that is broken comes after the message's own refusal; one that is right is opened. Assumes nothing.
use mathlib.Core.Path.{◌∙◌}
use native.Mathlib.Omega.{arith}
use Rattle.cards.specs.Answers.{opened}
use Rattle.cards.proofs.Forms.{form_no, form_is, unformed, name_fits, asks_as}
use Rattle.cards.proofs.open_card.Goals as goal

pub overflow_add-end : goal.overflow_add-end
overflow_add-end c =
    let a = c.args in
    omega (arith, c.name_at-start.ensures, name_fits a.m.now a.t a.card.now opened (form_is _ c.read_card.ensures c.in-Ok.is))

pub slice_bounds-name-end : goal.slice_bounds-name-end
slice_bounds-name-end c =
    let a = c.args in
    omega (arith, c.name_at-start.ensures, name_fits a.m.now a.t a.card.now opened (form_is _ c.read_card.ensures c.in-Ok.is))

pub returns-in-Err : goal.returns-in-Err
returns-in-Err c =
    let a = c.args in
    unformed a.m.now a.t a.card.now opened (form_no _ c.read_card.ensures c.in-Err.is) c.after_message.ensures

pub returns-in-Ok : goal.returns-in-Ok
returns-in-Ok c =
    let a = c.args in
    c.open_at.ensures ∙ asks_as a.m.now a.t a.card.now opened (form_is _ c.read_card.ensures c.in-Ok.is) _ c.name_at-start.ensures
