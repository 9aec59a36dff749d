-- `query::find_spot` meets its contract: the table's refusal, a row or a column past the end, or the cell.
use Rattle.format.proofs.Results.{handed_on}
use mathlib.Core.Path.{◌∙◌, sym, ap}
use native.Mathlib.Omega.{arith}
use Rattle.format.specs.Result.{ok, bind, told}
use Rattle.format.specs.Message.{response_layout}
use Rattle.places.specs.Places.{tables_of, table_at}
use Rattle.places.specs.Entries.{cell_here}
use Rattle.query.specs.Answers.{layout_of}
use Rattle.query.specs.Shown.{spot_of}
use Rattle.query.proofs.Opened.{bytes_all, opened, not_found, asked, row_past, cell_past, types_fit, rows_are, columns_are, types_at, rows_at}
use Rattle.query.proofs.find_spot.Goals as goal

pub spot_at-requires : goal.spot_at-requires
spot_at-requires c =
    let a = c.args in
    let o = opened a.timed a.m.now (bytes_all a.m.now (λ k. omega (arith, c.type_inv.m k))) a.t (sym (ap told c.in_ok-layout.was) ∙ c.find_table.ensures) in
    types_fit o a.c (omega arith)

pub returns-in_err-layout : goal.returns-in_err-layout
returns-in_err-layout c =
    let a = c.args in
    ap told (handed_on c.from_residual.ensures) ∙ not_found (response_layout a.timed) tables_of (table_at a.timed) a.m.now a.t layout_of (λ at b. bind (cell_here at b a.k a.c) (λ h. ok (spot_of h))) (sym (ap told c.in_err-layout.was) ∙ c.find_table.ensures)

pub returns-then-layout-k : goal.returns-then-layout-k
returns-then-layout-k c =
    let a = c.args in
    let o = opened a.timed a.m.now (bytes_all a.m.now (λ k. omega (arith, c.type_inv.m k))) a.t (sym (ap told c.in_ok-layout.was) ∙ c.find_table.ensures) in
    row_past o a.k a.c c.if-layout-k.true

pub returns-then-layout-c : goal.returns-then-layout-c
returns-then-layout-c c =
    let a = c.args in
    let o = opened a.timed a.m.now (bytes_all a.m.now (λ k. omega (arith, c.type_inv.m k))) a.t (sym (ap told c.in_ok-layout.was) ∙ c.find_table.ensures) in
    cell_past o a.k a.c (omega arith) c.if-layout-c.true

pub returns-else-layout-c : goal.returns-else-layout-c
returns-else-layout-c c =
    let a = c.args in
    let o = opened a.timed a.m.now (bytes_all a.m.now (λ k. omega (arith, c.type_inv.m k))) a.t (sym (ap told c.in_ok-layout.was) ∙ c.find_table.ensures) in
    c.spot_at.ensures _ o.tab o.stands (types_at o) (rows_at o) (omega (arith, rows_are o)) (omega (arith, columns_are o)) ∙ sym (asked o (λ at b. bind (cell_here at b a.k a.c) (λ h. ok (spot_of h))))
