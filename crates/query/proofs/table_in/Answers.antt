-- `query::table_in` meets its contract: the jump over the tables before it comes to table t.
use native.Mathlib.Omega.{arith}
use Rattle.query.proofs.Opened.{bytes_all, tables_is, table_past, table_at_is, table_found}
use Rattle.query.proofs.table_in.Goals as goal

pub returns-then-count_at-t : goal.returns-then-count_at-t
returns-then-count_at-t c =
    λ p e.
    let a = c.args in
    let all = bytes_all a.m.now (λ k. omega (arith, c.type_inv.m k)) in
    let n = tables_is a.timed a.m.now all p e c.tables_counted-counted.result c.tables_counted-counted.ensures c.count_at.ensures in
    table_past a.timed a.m.now all p e a.t (omega arith)

pub returns : goal.returns
returns c =
    λ p e.
    let a = c.args in
    let all = bytes_all a.m.now (λ k. omega (arith, c.type_inv.m k)) in
    let counted = c.tables_counted-counted in
    let n = tables_is a.timed a.m.now all p e counted.result counted.ensures c.count_at.ensures in
    let at = table_at_is a.timed a.m.now all p e a.t counted.result c.after-first.result (omega arith) counted.ensures c.after-first.ensures c.over.ensures in
    table_found a.timed a.m.now all p e a.t c.over.result (omega arith) at c.layout_at.ensures
