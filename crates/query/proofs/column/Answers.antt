-- `query::column` meets its contract: the column at its position, and past the end if there is none.
use mathlib.Core.Path.{◌≡◌, ◌∙◌, sym, ap}
use mathlib.Core.Bool.{true}
use mathlib.Core.List.{List}
use Prim.Native.Nat.{ℕ}
use Rattle.std.specs.Prelude.{Ok, Option, Some, None}
use Rattle.std.specs.Option.{ok_or}
use Rattle.format.specs.declared.Fault.TheVariants.{PastEnd}
use Rattle.format.specs.Result.{told}
use Rattle.scan.specs.Shown.{refusal}
use Rattle.places.specs.Places.{tables_of, table_at}
use Rattle.query.specs.declared.ColumnLayout.{ColumnLayout}
use Rattle.query.specs.Answers.{told_placed, ask_placed, ask_column, column_of, perhaps}
use Rattle.query.proofs.Opened.{found, found_asked, some_ok, none_past}
use Rattle.query.proofs.column.Goals as goal

column_is : (m : List ℕ) (t c : ℕ) (o : Option ColumnLayout) → told_placed (Ok o) ≡ ask_placed m t c → told (ok_or o (refusal PastEnd 0)) ≡ ask_column m t c
column_is m t c (Some l) e =
    let w = found 4 tables_of (table_at true) m t (λ at b. perhaps (column_of at b c)) e in
    sym (found_asked 4 tables_of (table_at true) m t w (λ at b. column_of at b c) ∙ some_ok _ w.is)
column_is m t c None e =
    let w = found 4 tables_of (table_at true) m t (λ at b. perhaps (column_of at b c)) e in
    sym (found_asked 4 tables_of (table_at true) m t w (λ at b. column_of at b c) ∙ none_past _ w.part c w.is)

pub returns : goal.returns
returns c =
    let a = c.args in
    ap told c.ok_or.ensures.value ∙ column_is a.m.now a.t a.c _ (sym (ap told_placed c.in_ok-placed_column.was) ∙ c.placed_column.ensures)
