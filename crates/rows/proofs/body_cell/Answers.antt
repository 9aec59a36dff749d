-- `rows::body_cell` meets its contract: a refusal hands back what came in; else the length and the bytes, or null, are written. Assumes nothing.
use Prim.Native.Nat.{ℕ}
use native.Mathlib.Omega.{arith}
use mathlib.Core.Path.{sym, ap, ◌∙◌, ◌≡◌}
use mathlib.Core.List.{List}
use lib.ListN.{length}
use Rattle.format.specs.Value.{body}
use Rattle.put.specs.Put.{put, given}
use Rattle.steps.specs.Steps.{cell}
use Rattle.write.specs.Shown.{seen}
use Rattle.write.proofs.Bytes.{body_bytes_lem}
use Rattle.write.proofs.Taken.{step_refused, step_accepted, step_taken}
use Rattle.rows.proofs.Cells.{body_answer, cell_fine}
use Rattle.write.proofs.Seen.{tabled_shown}
use Rattle.format.specs.Message.{most_columns}
use Rattle.rows.proofs.body_cell.Goals as goal

pub returns-in_default : goal.returns-in_default
returns-in_default c =
    let a = c.args in
    let st = a.st in
    let v = body (given a.text) in
    step_refused (cell a.t v) st a.out.now a.types.now (body_answer (seen st a.types.now) (length a.out.now) a.t (given a.text) c.body_fault-fault.ensures c.text_size.ensures.0 c.ask_cell-answer.ensures) c.in_default.is

pub returns : goal.returns
returns c =
    let a = c.args in
    let st = a.st in
    let v = body (given a.text) in
    let h : length a.types.now ≡ most_columns = omega (arith, c.lent-1.given) in
    let e = (body_answer (seen st a.types.now) (length a.out.now) a.t (given a.text) c.body_fault-fault.ensures c.text_size.ensures.0 c.ask_cell-answer.ensures) in
    let x = step_accepted (cell a.t v) st a.out.now a.types.now e c.in-Ok.is in
    let f = cell_fine (seen st a.types.now) (length a.out.now) a.t v x in
    step_taken (cell a.t v) st a.out.now a.types.now e c.in-Ok.is (c.in_table-state.ensures ∙ tabled_shown st a.types.now _ _ _ _ _ h) (c.text_at.ensures.1 ∙ sym (ap (λ (bs : List ℕ). put a.out.now st.position bs) (body_bytes_lem st.position 50 51 a.t (given a.text) f)))
