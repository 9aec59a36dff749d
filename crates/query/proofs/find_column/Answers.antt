-- `query::find_column` meets its contract: the table's refusal, or the search of its names.
use Rattle.format.specs.Result.{told}
use mathlib.Core.Bool.{true}
use mathlib.Core.Path.{◌∙◌, sym, ap}
use native.Mathlib.Omega.{arith}
use Rattle.query.specs.Answers.{first_named}
use Rattle.query.proofs.Opened.{bytes_all, opened, asked, named}
use Rattle.query.proofs.find_column.Goals as goal

pub returns : goal.returns
returns c =
    let a = c.args in
    let all = bytes_all a.m.now (λ k. omega (arith, c.type_inv.m k)) in
    let o = opened true a.m.now all a.t (sym (ap told c.in_ok-layout.was) ∙ c.find_table.ensures) in
    c.search.ensures o.tab.metadata.names (named o) ∙ sym (asked o (λ at b. first_named a.name.now b.metadata.names 0))
