-- `reply::finish_reply` meets its contract: a refusal hands back what came in; else the response's length and its table count are filled.
-- Assumes nothing.
use Prim.Native.Nat.{◌+◌, ◌-◌, ◌≤◌}
use native.Mathlib.Omega.{arith}
use lib.ListN.{length}
use Rattle.steps.specs.Steps.{finish_reply}
use Rattle.write.specs.Shown.{seen}
use Rattle.write.proofs.Taken.{step_refused, step_accepted, step_taken}
use Rattle.write.proofs.Filled.{filled_length, fill_two}
use Rattle.reply.proofs.Closings.{reply_fills}
use mathlib.Core.List.{[]}
use Rattle.reply.proofs.finish_reply.Goals as goal

pub returns-in_default : goal.returns-in_default
returns-in_default c = step_refused finish_reply c.args.st c.args.out.now [] c.ask_finish_reply-answer.ensures c.in_default.is

pub overflow_sub-st : goal.overflow_sub-st
overflow_sub-st c =
    let h : 0 + 4 ≤ c.args.st.position = (reply_fills (seen c.args.st []) (length c.args.out.now) _ (step_accepted finish_reply c.args.st c.args.out.now [] c.ask_finish_reply-answer.ensures c.in-Ok.is)).0.inside in
    omega arith

pub number_at-requires : goal.number_at-requires
number_at-requires c = (reply_fills (seen c.args.st []) (length c.args.out.now) _ (step_accepted finish_reply c.args.st c.args.out.now [] c.ask_finish_reply-answer.ensures c.in-Ok.is)).0.room

pub number_at-requires-2 : goal.number_at-requires-2
number_at-requires-2 c =
    let f = reply_fills (seen c.args.st []) (length c.args.out.now) _ (step_accepted finish_reply c.args.st c.args.out.now [] c.ask_finish_reply-answer.ensures c.in-Ok.is) in
    let h : c.args.st.count_at + 2 ≤ length c.args.out.now = f.1.room in
    let same = filled_length c.args.out.now 0 4 (c.args.st.position - 4) f.0.room c.number_at.ensures.1 in
    rw same h

pub returns : goal.returns
returns c =
    step_taken finish_reply c.args.st c.args.out.now [] c.ask_finish_reply-answer.ensures c.in-Ok.is c.finished-state.ensures
    (fill_two c.args.out.now c.args.st.position 0 4 (c.args.st.position - 4) c.args.st.count_at 2 c.args.st.count c.number_at.ensures.1 c.number_at-2.ensures.1)
