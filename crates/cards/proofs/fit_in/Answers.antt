-- `cards::fit_in` meets its contract: the three facts in their order, by the column at the card's position. Assumes nothing.
use mathlib.Core.Path.{◌∙◌, sym}
use native.Mathlib.Omega.{arith}
use Rattle.cards.proofs.Columns.{past_told, fits_told, type_told, name_told}
use Rattle.cards.proofs.Alike.{columns_are, column_told}
use Rattle.cards.proofs.fit_in.Goals as goal

pub returns-then-layout-card : goal.returns-then-layout-card
returns-then-layout-card c =
    let a = c.args in
    λ w. c.stale.ensures w ∙ past_told w.tab a.card.position a.card.wire_type a.card.name.now (omega (arith, columns_are w, c.if-layout-card.true))

pub is_alike-requires : goal.is_alike-requires
is_alike-requires c = (column_told c.requires c.args.card.position c.if-layout-card.false c.column_at-column.ensures).inside

pub returns-then-is_alike : goal.returns-then-is_alike
returns-then-is_alike c =
    let a = c.args in
    λ w.
    let t = column_told w a.card.position c.if-layout-card.false c.column_at-column.ensures in
    fits_told w.tab a.card.position a.card.wire_type a.card.name.now t (sym c.is_alike.ensures ∙ c.if-is_alike.true)

pub returns-then-column-card : goal.returns-then-column-card
returns-then-column-card c =
    let a = c.args in
    λ w.
    let t = column_told w a.card.position c.if-layout-card.false c.column_at-column.ensures in
    c.stale-then-column-card.ensures w ∙ name_told w.tab a.card.position a.card.wire_type a.card.name.now t c.if-column-card.true (sym c.is_alike.ensures ∙ c.if-is_alike.false)

pub returns : goal.returns
returns c =
    let a = c.args in
    λ w.
    let t = column_told w a.card.position c.if-layout-card.false c.column_at-column.ensures in
    c.stale-2.ensures w ∙ type_told w.tab a.card.position a.card.wire_type a.card.name.now t c.if-column-card.false
