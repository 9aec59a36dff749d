-- `rows::close_table` meets its contract: a refusal hands back what came in; else the table's length and its row count are filled.
-- Assumes nothing.
use Prim.Native.Nat.{◌+◌, ◌-◌, ◌≤◌}
use native.Mathlib.Omega.{arith}
use lib.ListN.{length}
use Rattle.format.specs.Message.{most_message}
use Rattle.steps.specs.Steps.{close_table}
use Rattle.write.specs.Shown.{seen}
use Rattle.write.proofs.Taken.{step_refused, step_accepted, step_taken}
use Rattle.write.proofs.Filled.{filled_length, fill_two}
use Rattle.rows.proofs.Closings.{table_fills}
use Rattle.rows.proofs.close_table.Goals as goal

pub returns-in_default : goal.returns-in_default
returns-in_default c = step_refused close_table c.args.st c.args.out.now c.args.types.now c.ask_close_table-answer.ensures c.in_default.is

pub overflow_add-st : goal.overflow_add-st
overflow_add-st c =
    let f = (table_fills (seen c.args.st c.args.types.now) (length c.args.out.now) _ (step_accepted close_table c.args.st c.args.out.now c.args.types.now c.ask_close_table-answer.ensures c.in-Ok.is)).0 in
    let h : c.args.st.table_at + 4 ≤ c.args.st.position = f.inside in
    let k : c.args.st.position ≤ 4 + most_message = f.few in
    omega arith

pub overflow_sub-st : goal.overflow_sub-st
overflow_sub-st c = (table_fills (seen c.args.st c.args.types.now) (length c.args.out.now) _ (step_accepted close_table c.args.st c.args.out.now c.args.types.now c.ask_close_table-answer.ensures c.in-Ok.is)).0.inside

pub number_at-requires : goal.number_at-requires
number_at-requires c = (table_fills (seen c.args.st c.args.types.now) (length c.args.out.now) _ (step_accepted close_table c.args.st c.args.out.now c.args.types.now c.ask_close_table-answer.ensures c.in-Ok.is)).0.room

pub number_at-requires-2 : goal.number_at-requires-2
number_at-requires-2 c =
    let f = table_fills (seen c.args.st c.args.types.now) (length c.args.out.now) _ (step_accepted close_table c.args.st c.args.out.now c.args.types.now c.ask_close_table-answer.ensures c.in-Ok.is) in
    let h : c.args.st.rows_at + 4 ≤ length c.args.out.now = f.1.room in
    let same = filled_length c.args.out.now c.args.st.table_at 4 (c.args.st.position - (c.args.st.table_at + 4)) f.0.room c.number_at.ensures.1 in
    rw same h

pub returns : goal.returns
returns c =
    step_taken close_table c.args.st c.args.out.now c.args.types.now c.ask_close_table-answer.ensures c.in-Ok.is c.between-state.ensures
    (fill_two c.args.out.now c.args.st.position c.args.st.table_at 4 (c.args.st.position - (c.args.st.table_at + 4)) c.args.st.rows_at 4 c.args.st.rows
    c.number_at.ensures.1 c.number_at-2.ensures.1)
