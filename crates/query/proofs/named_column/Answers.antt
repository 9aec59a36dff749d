-- `query::named_column` meets its contract: the table's refusal, or the first column of the name.
use Rattle.format.specs.Result.{told}
use mathlib.Core.Bool.{true}
use mathlib.Core.Path.{◌∙◌, sym, ap}
use native.Mathlib.Omega.{arith}
use Rattle.query.specs.Answers.{named_of}
use Rattle.query.proofs.Opened.{bytes_all, opened, asked, types_at, names_at, columns_are}
use Rattle.query.proofs.named_column.Goals as goal

pub returns : goal.returns
returns c =
    let a = c.args in
    let all = bytes_all a.m.now (λ k. omega (arith, c.type_inv.m k)) in
    let o = opened true a.m.now all a.t (sym (ap told c.in_ok-layout.was) ∙ c.find_table.ensures) in
    c.named_in.ensures _ o.tab o.stands (types_at o) (names_at o) (columns_are o) ∙ sym (asked o (λ at b. named_of at b a.name.now))
