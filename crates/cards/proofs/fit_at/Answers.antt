-- `cards::fit_at` meets its contract: the table's refusal, or how the card fits the table that was found. Assumes nothing.
use Rattle.format.proofs.Results.{handed_on}
use mathlib.Core.Path.{◌∙◌, sym, ap}
use native.Mathlib.Omega.{arith}
use Rattle.format.specs.Result.{ok, told}
use Rattle.format.specs.Message.{response_layout}
use Rattle.places.specs.Places.{tables_of, table_at}
use Rattle.query.specs.Answers.{layout_of}
use Rattle.query.proofs.Opened.{bytes_all, opened, not_found, asked}
use Rattle.cards.specs.Card.{a_card}
use Rattle.cards.specs.Reasons.{fit_of, told_fit}
use Rattle.cards.proofs.Alike.{laid}
use Rattle.cards.proofs.fit_at.Goals as goal

pub fit_in-requires : goal.fit_in-requires
fit_in-requires c =
    let a = c.args in
    let all = bytes_all a.m.now (λ k. omega (arith, c.type_inv.m k)) in
    laid (opened a.timed a.m.now all a.t (sym (ap told c.in_ok-layout.was) ∙ c.find_table.ensures))

pub returns-in_err-layout : goal.returns-in_err-layout
returns-in_err-layout c =
    let a = c.args in
    ap told_fit (handed_on c.from_residual.ensures) ∙ not_found (response_layout a.timed) tables_of (table_at a.timed) a.m.now a.t layout_of (λ at b. ok (fit_of b (a_card a.card.position a.card.wire_type a.card.name.now))) (sym (ap told c.in_err-layout.was) ∙ c.find_table.ensures)

pub returns : goal.returns
returns c =
    let a = c.args in
    let all = bytes_all a.m.now (λ k. omega (arith, c.type_inv.m k)) in
    let o = opened a.timed a.m.now all a.t (sym (ap told c.in_ok-layout.was) ∙ c.find_table.ensures) in
    ap ok (c.fit_in.ensures (laid o)) ∙ sym (asked o (λ at b. ok (fit_of b (a_card a.card.position a.card.wire_type a.card.name.now))))
