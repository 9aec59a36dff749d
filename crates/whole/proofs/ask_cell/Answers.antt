-- `whole::ask_cell` meets its contract: by its column's type, a cell is a body or a number. Assumes nothing.
use mathlib.Core.Path.{◌≡◌, sym, ◌∙◌, subst}
use Prim.Native.Nat.{ℕ}
use Rattle.write.specs.Shown.{seen, shown_answer}
use Rattle.whole.specs.Rows.{value_in, cell_step}
use Rattle.whole.specs.Asked.{asked}
use Rattle.whole.proofs.Sures.{asked_fixed, asked_body}
use Rattle.whole.proofs.ask_cell.Goals as goal

pub returns-then-is_counted : goal.returns-then-is_counted
returns-then-is_counted c =
    let a = c.args in
    let s = seen a.st a.types.now in
    let t = c.next_type-t.result in
    subst (λ (t : ℕ). c.ask_body.result ≡ shown_answer (asked (cell_step t (value_in a.bytes.now t a.a a.b)) s a.size)) c.next_type-t.ensures
    (asked_body a.bytes.now s t a.size a.a a.b (sym c.is_counted.ensures ∙ c.if-is_counted.true) c.ask_body.ensures)

pub returns : goal.returns
returns c =
    let a = c.args in
    let s = seen a.st a.types.now in
    let t = c.next_type-t.result in
    subst (λ (t : ℕ). c.ask_cell.result ≡ shown_answer (asked (cell_step t (value_in a.bytes.now t a.a a.b)) s a.size)) c.next_type-t.ensures
    (asked_fixed a.bytes.now s t a.size a.a a.b (sym c.is_counted.ensures ∙ c.if-is_counted.false) c.fixed_fault-fault.ensures c.width_of.ensures c.ask_cell.ensures)
