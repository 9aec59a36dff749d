-- `rows::fixed_cell` meets its contract: a refusal hands back what came in; else the value is written. Assumes nothing.
use Prim.Native.Nat.{ℕ, ◌+◌, ◌*◌, ◌^◌}
use native.Mathlib.Omega.{arith}
use mathlib.Core.Path.{sym, ap, ◌∙◌, ◌≡◌}
use mathlib.Core.List.{List}
use lib.ListN.{length}
use Rattle.format.specs.Value.{fixed}
use Rattle.put.specs.Put.{put}
use Rattle.steps.specs.Steps.{cell}
use Rattle.write.specs.Shown.{seen}
use Rattle.write.proofs.Bytes.{fixed_bytes}
use Rattle.write.proofs.Taken.{step_refused, step_accepted, step_taken, room}
use Rattle.rows.proofs.Cells.{fixed_answer, fixed_size, cell_fine}
use Rattle.write.proofs.Seen.{tabled_shown}
use Rattle.format.specs.Message.{most_columns}
use Rattle.rows.proofs.fixed_cell.Goals as goal

pub returns-in_default : goal.returns-in_default
returns-in_default c =
    let a = c.args in
    let st = a.st in
    let v = fixed (a.upper * 2 ^ 64 + a.lower) in
    step_refused (cell a.t v) st a.out.now a.types.now (fixed_answer (seen st a.types.now) (length a.out.now) a.t (a.upper * 2 ^ 64 + a.lower) c.fixed_fault-fault.ensures c.width_of.ensures c.ask_cell-answer.ensures) c.in_default.is

pub fixed_at-requires : goal.fixed_at-requires
fixed_at-requires c =
    let a = c.args in
    let st = a.st in
    let v = fixed (a.upper * 2 ^ 64 + a.lower) in
    let x = step_accepted (cell a.t v) st a.out.now a.types.now (fixed_answer (seen st a.types.now) (length a.out.now) a.t (a.upper * 2 ^ 64 + a.lower) c.fixed_fault-fault.ensures c.width_of.ensures c.ask_cell-answer.ensures) c.in-Ok.is in
    room x (fixed_size st.position a.t (a.upper * 2 ^ 64 + a.lower) (cell_fine (seen st a.types.now) (length a.out.now) a.t v x))

pub returns : goal.returns
returns c =
    let a = c.args in
    let st = a.st in
    let v = fixed (a.upper * 2 ^ 64 + a.lower) in
    let h : length a.types.now ≡ most_columns = omega (arith, c.lent-1.given) in
    let e = (fixed_answer (seen st a.types.now) (length a.out.now) a.t (a.upper * 2 ^ 64 + a.lower) c.fixed_fault-fault.ensures c.width_of.ensures c.ask_cell-answer.ensures) in
    let x = step_accepted (cell a.t v) st a.out.now a.types.now e c.in-Ok.is in
    let f = cell_fine (seen st a.types.now) (length a.out.now) a.t v x in
    step_taken (cell a.t v) st a.out.now a.types.now e c.in-Ok.is (c.in_table-state.ensures ∙ tabled_shown st a.types.now _ _ _ _ _ h) (c.fixed_at.ensures.1 ∙ sym (ap (λ (bs : List ℕ). put a.out.now st.position bs) (fixed_bytes st.position 50 51 a.t (a.upper * 2 ^ 64 + a.lower) f)))
