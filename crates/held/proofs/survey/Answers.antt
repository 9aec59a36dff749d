-- `held::survey` meets its contract: what was found, with the columns that are left, is what all come to.
use Rattle.std.proofs.Common.{◌≡◌, sym, ap, ◌∙◌, ℕ, ◌+◌, ◌<◌, List, length, get_or, drop, add-one, arith}
use Rattle.std.proofs.Math.Seq.{drop-cons, drop-length}
use Rattle.columns.specs.declared.Column.{Column}
use Rattle.columns.specs.declared.survey.Survey.{Survey}
use Rattle.columns.specs.Entries.{no_entry}
use Rattle.columns.specs.Walks.{added, add_all}
use Rattle.held.proofs.survey.Goals as goal

-- one column more on the left is one fewer on the right
one_more : (names : List ℕ) (a : Survey) (ys : List Column) (i : ℕ) → i < length ys → add_all names (added names a (get_or ys i no_entry)) (drop (i + 1) ys) ≡ add_all names a (drop i ys)
unfolding add_all
one_more names a ys i l = rw (add-one i, drop-cons ys i no_entry l)

no_more_left : (names : List ℕ) (a : Survey) (ys : List Column) → add_all names a (drop (length ys) ys) ≡ a
unfolding add_all
no_more_left names a ys = rw (drop-length ys)

pub loop-column-preserved : goal.loop-column-preserved
loop-column-preserved c =
    let names = c.args.names.now in let cols = c.args.cols.now in
    let rest = drop (c.loop-column.column-index + 1) cols in
    ap (λ (a : Survey). add_all names a rest) c.surveyed-a.ensures ∙ one_more names c.loop-column.a cols c.loop-column.column-index c.loop-column-test.true ∙ c.loop-column.invariant

pub returns : goal.returns
returns c =
    let names = c.args.names.now in let cols = c.args.cols.now in
    let e : length cols ≡ c.loop-column.column-index = omega arith in
    sym (no_more_left names c.loop-column.a cols) ∙ ap (λ (i : ℕ). add_all names c.loop-column.a (drop i cols)) e ∙ c.loop-column.invariant
