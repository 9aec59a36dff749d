-- `whole::ask_cells` meets its contract: what the cells that are left are answered is what all are. Assumes nothing.
use Prim.Native.Nat.{ℕ, ◌+◌, ◌*◌, ◌≤◌}
use mathlib.Core.Path.{◌≡◌, refl, sym, ap, ◌∙◌, subst}
use Rattle.format.specs.Message.{most_columns}
use Rattle.steps.specs.State.{State}
use Rattle.format.proofs.Results.{handed_on}
use Rattle.write.specs.declared.State.{State as Code}
use Rattle.write.specs.Shown.{seen, shown_answer}
use mathlib.Core.List.{List}
use lib.ListN.{drop}
use Rattle.steps.specs.declared.Stage.TheVariants.{Row}
use Rattle.write.specs.Shared.{tabled}
use Rattle.scan.proofs.Answers.{shown_go, shown_stop}
use Rattle.whole.specs.Asked.{in_row, rest_answer, Opened}
use Rattle.whole.proofs.Answers.{columns_few, rest_end, rest_taken, rest_refused, tabled_seen, tabled_few}
use Rattle.whole.proofs.Pairs.{pair, no_pair}
use Rattle.whole.proofs.ask_cells.Goals as goal

-- the state that the loop begins with
begun : (st : Code) (types : List ℕ) (size first : ℕ) {row : Code} → row ≡ tabled st Row first st.position 0 (st.rows + 1) → Opened (seen st types) size first
    → seen row types ≡ in_row (seen st types) first 0
begun st types size first e o = ap (λ (r : Code). seen r types) e ∙ tabled_seen st types first st.position 0 (st.rows + 1) (columns_few st types size first o)

pub returns-in_err-n : goal.returns-in_err-n
returns-in_err-n c =
    let a = c.args in
    let l = c.loop-cell in
    let s = seen l.row a.types.now in
    let step = c.in-Some.ensures.steps in
    let p = pair a.cells.now l.row.inner_count c.in-Some.cell.now _ l.invariant.0 step.1.0 step.1.1 in
    let told = c.ask_cell.ensures in
    let r = rest_refused a.bytes.now a.cells.now s a.size l.row.inner_count _ _ refl p.there (shown_stop _ (rw (p.upper, p.lower) at told) c.in_err-n.was) in
    let start = begun a.st a.types.now a.size a.first c.in_table-row.ensures c.requires in
    handed_on c.from_residual.ensures ∙ ap shown_answer (sym r ∙ l.invariant.2 ∙ ap (λ (x : State). rest_answer a.bytes.now a.cells.now x a.size) start)

pub loop-cell-preserved : goal.loop-cell-preserved
loop-cell-preserved c =
    let a = c.args in
    let l = c.loop-cell in
    let k = l.row.inner_count in
    let n = c.in_ok-n.n in
    let s = seen l.row a.types.now in
    let step = c.in-Some.ensures.steps in
    let p = pair a.cells.now k c.in-Some.cell.now _ l.invariant.0 step.1.0 step.1.1 in
    let e = c.in_table-row-in-loop-cell.ensures in
    let told = c.ask_cell.ensures in
    let turn = rest_taken a.bytes.now a.cells.now s a.size k n refl p.there (shown_go _ (rw (p.upper, p.lower) at told) c.in_ok-n.was) in
    let few = l.invariant.1 in
    let next = ap (λ (r : Code). seen r a.types.now) e ∙ tabled_seen l.row a.types.now n l.row.inner_at (k + 1) l.row.rows few in (
      (step.0 ∙ l.invariant.0.0, p.behind ∙ sym (ap (λ (r : Code). drop (2 * r.inner_count) a.cells.now) e)),
      subst (λ (r : Code). r.columns ≤ most_columns) (sym e) (tabled_few l.row n l.row.inner_at (k + 1) l.row.rows few),
      ap (λ (x : State). rest_answer a.bytes.now a.cells.now x a.size) next ∙ (sym turn ∙ l.invariant.2),
    )

pub returns : goal.returns
returns c =
    let a = c.args in
    let l = c.loop-cell in
    let s = seen l.row a.types.now in
    let r = rest_end a.bytes.now a.cells.now s a.size (no_pair a.cells.now l.row.inner_count l.invariant.0 c.in-None.ensures.steps.1.0) in
    let start = begun a.st a.types.now a.size a.first c.in_table-row.ensures c.requires in
    c.ask_close.ensures ∙ ap shown_answer (sym r ∙ l.invariant.2 ∙ ap (λ (x : State). rest_answer a.bytes.now a.cells.now x a.size) start)
