-- `numbers::put_listed` meets its contract: what was written, with the columns that are left, is what all come to. Assumes nothing.
use Prim.Native.Nat.{ℕ}
use native.Mathlib.Omega.{arith}
use mathlib.Core.Path.{◌≡◌, sym, ap, ◌∙◌, subst}
use mathlib.Core.List.{List, []}
use lib.ListN.{length}
use Rattle.columns.specs.declared.Column.{Column}
use Rattle.columns.specs.declared.Walk.{Walk}
use Rattle.columns.specs.Walks.{Fits, Page, put_all}
use Rattle.numbers.specs.Entries.{entries_of}
use Rattle.numbers.proofs.Entries.{no_more, page, fits_next, put_turn}
use borrow.Author.Rules.{rules}
use Rattle.numbers.proofs.put_listed.Goals as goal

ended : (names : List ℕ) (p : Page) (es : List Column) → es ≡ [] → p ≡ put_all names p es
unfolding put_all
ended names p es e = sym (ap (put_all names p) e)

pub put_column-walk-requires : goal.put_column-walk-requires
put_column-walk-requires c =
    let l = c.loop-entry in
    let step = c.in-Some.ensures.steps in
    subst (λ (e : Column). Fits c.args.names.now (length l.out) l.walk e) (sym c.column_of.ensures)
    (fits_next c.args.names.now _ c.in-Some.entry.now _ (length l.out) l.walk step.1.0 (step.1.1 ∙ l.invariant.0) l.invariant.2).0

pub loop-entry-preserved : goal.loop-entry-preserved
loop-entry-preserved c =
    let l = c.loop-entry in
    let step = c.in-Some.ensures.steps in
    let same : length c.put_column-walk.new.out ≡ length l.out = search rules in
    let turn = put_turn c.args.names.now _ c.in-Some.entry.now _ l.out l.types l.walk c.column_of.result step.1.0 (step.1.1 ∙ l.invariant.0) l.invariant.2 c.column_of.ensures c.put_column-walk.ensures same in
    (step.0 ∙ l.invariant.0, same ∙ l.invariant.1, turn.0, turn.1 ∙ l.invariant.3)

pub returns : goal.returns
returns c =
    let a = c.args in
    let l = c.loop-entry in
    let few = c.in-None.ensures.steps.1.0 in
    let all = ended a.names.now (page l.out l.types l.walk) _ (no_more _ (omega (arith, few, l.invariant.0))) ∙ l.invariant.3
    ∙ ap (λ (w : Walk). put_all a.names.now (page a.out.now a.types.now w) (entries_of a.list.now)) c.walk_in-walk.ensures in
    (c.step_in.ensures, ap (λ (p : Page). p.out) all, ap (λ (p : Page). p.types) all)
