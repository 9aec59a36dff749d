-- `rows::open_row` meets its contract: a refusal hands back what came in; else the row's length is written as zeros. Assumes nothing.
use native.Mathlib.Omega.{arith}
use mathlib.Core.Path.{◌≡◌, ◌∙◌}
use Rattle.format.specs.Message.{most_columns}
use Rattle.format.proofs.Numbers.{length-num_bytes}
use Rattle.steps.specs.Steps.{open_row}
use Rattle.write.proofs.Taken.{step_refused, step_accepted, step_taken, room}
use Rattle.write.proofs.Seen.{tabled_shown}
use lib.ListN.{length}
use Rattle.rows.proofs.open_row.Goals as goal

pub returns-in_default : goal.returns-in_default
returns-in_default c = step_refused open_row c.args.st c.args.out.now c.args.types.now c.ask_open_row-answer.ensures c.in_default.is

pub number_at-requires : goal.number_at-requires
number_at-requires c = room (step_accepted open_row c.args.st c.args.out.now c.args.types.now c.ask_open_row-answer.ensures c.in-Ok.is) (length-num_bytes 4 0)

pub returns : goal.returns
returns c =
    let h : length c.args.types.now ≡ most_columns = omega arith in
    step_taken open_row c.args.st c.args.out.now c.args.types.now c.ask_open_row-answer.ensures c.in-Ok.is (c.in_table-state.ensures ∙ tabled_shown c.args.st c.args.types.now _ _ _ _ _ h) c.number_at.ensures.1
