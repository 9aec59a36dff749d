-- `call::begin` meets its contract: a refusal opens nothing; else what stands before the parameters is written. Assumes nothing.
use native.Mathlib.Omega.{arith}
use Rattle.steps.specs.State.{closed}
use Rattle.steps.specs.Steps.{begin_call}
use Rattle.write.specs.Shown.{zero}
use Rattle.write.proofs.Taken.{step_refused, step_accepted, step_taken, room}
use Rattle.call.proofs.Written.{begun_size}
use mathlib.Core.List.{[]}
use Rattle.call.proofs.begin.Goals as goal

pub returns-in_default : goal.returns-in_default
returns-in_default c = let a = c.args in rw c.nothing_open.ensures (step_refused (begin_call a.version a.procedure.now a.client.now) zero a.out.now [] c.ask_begin-answer.ensures c.in_default.is)

pub put_head-requires : goal.put_head-requires
put_head-requires c =
    let a = c.args in
    let h = room (step_accepted (begin_call a.version a.procedure.now a.client.now) zero a.out.now [] c.ask_begin-answer.ensures c.in-Ok.is) (begun_size a.version a.procedure.now a.client.now (closed 0) 0 c.requires) in
    (c.requires, omega (arith, h))

pub begun-requires : goal.begun-requires
begun-requires c =
    let a = c.args in
    let x = step_accepted (begin_call a.version a.procedure.now a.client.now) zero a.out.now [] c.ask_begin-answer.ensures c.in-Ok.is in
    omega (arith, x.reached, begun_size a.version a.procedure.now a.client.now (closed 0) 0 c.requires)

pub returns : goal.returns
returns c = let a = c.args in step_taken (begin_call a.version a.procedure.now a.client.now) zero a.out.now [] c.ask_begin-answer.ensures c.in-Ok.is c.begun.ensures c.put_head.ensures
