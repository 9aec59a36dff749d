-- `rows::close_row` meets its contract: a refusal hands back what came in; else the row's length is filled. Assumes nothing.
use Prim.Native.Nat.{◌+◌, ◌-◌, ◌≤◌}
use native.Mathlib.Omega.{arith}
use lib.ListN.{length}
use Rattle.format.specs.Message.{most_message, most_columns}
use Rattle.steps.specs.Steps.{close_row}
use Rattle.write.specs.Shown.{seen}
use Rattle.write.proofs.Taken.{step_refused, step_accepted, step_taken}
use Rattle.write.proofs.Filled.{fill_one}
use Rattle.rows.proofs.Closings.{row_fills}
use Rattle.write.proofs.Seen.{tabled_shown}
use mathlib.Core.Path.{◌≡◌, ◌∙◌}
use Rattle.rows.proofs.close_row.Goals as goal

pub returns-in_default : goal.returns-in_default
returns-in_default c = step_refused close_row c.args.st c.args.out.now c.args.types.now c.ask_close_row-answer.ensures c.in_default.is

pub overflow_add-st : goal.overflow_add-st
overflow_add-st c =
    let f = row_fills (seen c.args.st c.args.types.now) (length c.args.out.now) _ (step_accepted close_row c.args.st c.args.out.now c.args.types.now c.ask_close_row-answer.ensures c.in-Ok.is) in
    let h : c.args.st.inner_at + 4 ≤ c.args.st.position = f.inside in
    let k : c.args.st.position ≤ 4 + most_message = f.few in
    omega arith

pub overflow_sub-st : goal.overflow_sub-st
overflow_sub-st c = (row_fills (seen c.args.st c.args.types.now) (length c.args.out.now) _ (step_accepted close_row c.args.st c.args.out.now c.args.types.now c.ask_close_row-answer.ensures c.in-Ok.is)).inside

pub number_at-requires : goal.number_at-requires
number_at-requires c = (row_fills (seen c.args.st c.args.types.now) (length c.args.out.now) _ (step_accepted close_row c.args.st c.args.out.now c.args.types.now c.ask_close_row-answer.ensures c.in-Ok.is)).room

pub returns : goal.returns
returns c =
    let h : length c.args.types.now ≡ most_columns = omega arith in
    step_taken close_row c.args.st c.args.out.now c.args.types.now c.ask_close_row-answer.ensures c.in-Ok.is (c.in_table-state.ensures ∙ tabled_shown c.args.st c.args.types.now _ _ _ _ _ h)
    (fill_one c.args.out.now c.args.st.position c.args.st.inner_at 4 (c.args.st.position - (c.args.st.inner_at + 4)) c.number_at.ensures.1)
