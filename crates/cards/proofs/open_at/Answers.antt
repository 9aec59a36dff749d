-- `cards::open_at` meets its contract: the table's refusal, no such column, or whether that one fits. Assumes nothing.
use Rattle.std.specs.Prelude.{Result, Ok, Err, Option as Maybe, Some, None}
use Rattle.std.specs.Option.{ok_or}
use Rattle.format.proofs.Results.{handed_on}
use mathlib.Core.Path.{◌≡◌, refl, ◌∙◌, sym, ap}
use mathlib.Core.Bool.{Bool}
use native.Mathlib.Omega.{arith}
use Rattle.format.specs.declared.Fault.TheVariants.{Stale}
use Rattle.format.specs.Result.{ok, no, pick, told}
use Rattle.format.specs.Message.{response_layout}
use Rattle.places.specs.Places.{tables_of, table_at}
use Rattle.query.specs.Answers.{told_placed, column_of, perhaps}
use Rattle.query.proofs.Opened.{bytes_all, not_found}
use Rattle.cards.specs.Card.{a_card}
use Rattle.cards.specs.Answers.{opened}
use Rattle.cards.proofs.Columns.{past_stale, inside, opens_by}
use Rattle.cards.proofs.open_at.Goals as goal

module _ {A E : Type 0} where
  there : (o : Maybe A) (x : E) {r : Result A E} {a : A} → r ≡ ok_or o x → r ≡ Ok a → o ≡ Some a
  there (Some b) x e f = cc
  there None x e f = cc

  missing : (o : Maybe A) (x : E) {r : Result A E} {y : E} → r ≡ ok_or o x → r ≡ Err y → (o ≡ None) × (y ≡ x)
  missing (Some b) x e f = cc
  missing None x e f = (refl, cc)

pub is_alike-requires : goal.is_alike-requires
is_alike-requires c =
    let a = c.args in
    let all = bytes_all a.m.now (λ k. omega (arith, c.type_inv.m k)) in
    inside a.timed a.m.now a.t a.card.position a.card.wire_type a.card.name.now all (sym (ap told_placed (c.in_ok-find_placed.was ∙ ap Ok (there _ _ c.ok_or.ensures.value c.in_ok-column.was))) ∙ c.find_placed.ensures)

pub returns-in_err-find_placed : goal.returns-in_err-find_placed
returns-in_err-find_placed c =
    let a = c.args in
    ap told (handed_on c.from_residual.ensures) ∙ not_found (response_layout a.timed) tables_of (table_at a.timed) a.m.now a.t (λ at b. perhaps (column_of at b a.card.position)) (λ at b. opened b (a_card a.card.position a.card.wire_type a.card.name.now))
    (sym (ap told_placed c.in_err-find_placed.was) ∙ c.find_placed.ensures)

pub returns-in_err-column : goal.returns-in_err-column
returns-in_err-column c =
    let a = c.args in
    let w = missing _ _ c.ok_or.ensures.value c.in_err-column.was in
    ap told (handed_on c.from_residual-in_err-column.ensures ∙ ap Err w.1)
    ∙ past_stale a.timed a.m.now a.t a.card.position a.card.wire_type a.card.name.now (sym (ap told_placed (c.in_ok-find_placed.was ∙ ap Ok w.0)) ∙ c.find_placed.ensures)

pub returns-then-is_alike : goal.returns-then-is_alike
returns-then-is_alike c =
    let a = c.args in
    let all = bytes_all a.m.now (λ k. omega (arith, c.type_inv.m k)) in
    sym (ap (λ (z : Bool). pick z (ok a.card.position) (no Stale 0)) (sym c.is_alike.ensures ∙ c.if-is_alike.true))
    ∙ opens_by a.timed a.m.now a.t a.card.position a.card.wire_type a.card.name.now all (sym (ap told_placed (c.in_ok-find_placed.was ∙ ap Ok (there _ _ c.ok_or.ensures.value c.in_ok-column.was))) ∙ c.find_placed.ensures)

pub returns-else-is_alike : goal.returns-else-is_alike
returns-else-is_alike c =
    let a = c.args in
    let all = bytes_all a.m.now (λ k. omega (arith, c.type_inv.m k)) in
    sym (ap (λ (z : Bool). pick z (ok a.card.position) (no Stale 0)) (sym c.is_alike.ensures ∙ c.if-is_alike.false))
    ∙ opens_by a.timed a.m.now a.t a.card.position a.card.wire_type a.card.name.now all (sym (ap told_placed (c.in_ok-find_placed.was ∙ ap Ok (there _ _ c.ok_or.ensures.value c.in_ok-column.was))) ∙ c.find_placed.ensures)
