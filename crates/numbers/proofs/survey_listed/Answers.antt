-- `numbers::survey_listed` meets its contract: what was found, with the columns that are left, is what all come to. Assumes nothing.
use Prim.Native.Nat.{ℕ}
use native.Mathlib.Omega.{arith}
use mathlib.Core.Path.{◌≡◌, sym, ap, ◌∙◌}
use mathlib.Core.List.{List, []}
use Rattle.columns.specs.declared.Column.{Column}
use Rattle.columns.specs.declared.survey.Survey.{Survey}
use Rattle.columns.specs.Walks.{add_all}
use Rattle.numbers.proofs.Entries.{no_more, survey_turn}
use Rattle.numbers.proofs.survey_listed.Goals as goal

ended : (names : List ℕ) (s : Survey) (es : List Column) → es ≡ [] → s ≡ add_all names s es
unfolding add_all
ended names s es e = sym (ap (add_all names s) e)

pub loop-entry-preserved : goal.loop-entry-preserved
loop-entry-preserved c =
    let l = c.loop-entry in
    let step = c.in-Some.ensures.steps in
    let turn = survey_turn c.args.names.now _ c.in-Some.entry.now _ l.found c.surveyed-found.result c.column_of.result step.1.0 (step.1.1 ∙ l.invariant.0) c.column_of.ensures c.surveyed-found.ensures in
    (step.0 ∙ l.invariant.0, turn ∙ l.invariant.1)

pub returns : goal.returns
returns c =
    let l = c.loop-entry in
    let few = c.in-None.ensures.steps.1.0 in
    ended c.args.names.now l.found _ (no_more _ (omega (arith, few, l.invariant.0))) ∙ l.invariant.1
