-- `query::find_placed` meets its contract: the table's refusal, or its column if there is one.
use Rattle.format.proofs.Results.{handed_on}
use mathlib.Core.Path.{◌∙◌, sym, ap}
use native.Mathlib.Omega.{arith}
use Rattle.format.specs.Result.{Res, ok, told}
use Rattle.format.specs.Message.{response_layout}
use Rattle.places.specs.Places.{tables_of, table_at}
use Rattle.query.specs.declared.ColumnLayout.{ColumnLayout}
use Rattle.query.specs.Answers.{told_placed, layout_of, column_of, perhaps}
use Rattle.query.proofs.Opened.{bytes_all, opened, not_found, asked, column_past, columns_are, types_at, names_at}
use Rattle.query.proofs.find_placed.Goals as goal

pub returns-in_err-layout : goal.returns-in_err-layout
returns-in_err-layout c =
    let a = c.args in
    ap told_placed (handed_on c.from_residual.ensures) ∙ not_found (response_layout a.timed) tables_of (table_at a.timed) a.m.now a.t layout_of (λ at b. ok (perhaps (column_of at b a.c))) (sym (ap told c.in_err-layout.was) ∙ c.find_table.ensures)

pub returns-then-layout-c : goal.returns-then-layout-c
returns-then-layout-c c =
    let a = c.args in
    let all = bytes_all a.m.now (λ k. omega (arith, c.type_inv.m k)) in
    let o = opened a.timed a.m.now all a.t (sym (ap told c.in_ok-layout.was) ∙ c.find_table.ensures) in
    ap (λ (r : Res ColumnLayout). ok (perhaps r)) (column_past o a.c c.if-layout-c.true ∙ asked o (λ at b. column_of at b a.c)) ∙ sym (asked o (λ at b. ok (perhaps (column_of at b a.c))))

pub returns-else-layout-c : goal.returns-else-layout-c
returns-else-layout-c c =
    let a = c.args in
    let all = bytes_all a.m.now (λ k. omega (arith, c.type_inv.m k)) in
    let o = opened a.timed a.m.now all a.t (sym (ap told c.in_ok-layout.was) ∙ c.find_table.ensures) in
    ap (λ (r : Res ColumnLayout). ok (perhaps r)) (c.column_at.ensures _ o.tab o.stands (types_at o) (names_at o) (omega (arith, columns_are o, c.if-layout-c.false))) ∙ sym (asked o (λ at b. ok (perhaps (column_of at b a.c))))
