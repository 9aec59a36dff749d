-- `message::skip_part` meets its contract: the part reads as the message does, moved on. Assumes nothing.
use native.Mathlib.Omega.{arith}
use Rattle.message.proofs.Parts.{rows_go, rows_stop}
use Rattle.message.proofs.skip_part.Goals as goal

pub overflow_add-result-in-Err : goal.overflow_add-result-in-Err
overflow_add-result-in-Err c =
    let a = c.args in
    omega (arith, (rows_stop a.types.now a.n a.m.now (λ k. omega (arith, c.type_inv.m k)) a.rows a.«end» c.requires.0 c.requires.1 c.skip_rows.ensures c.in-Err.is).1)

pub returns-in-Err : goal.returns-in-Err
returns-in-Err c =
    let a = c.args in
    (rows_stop a.types.now a.n a.m.now (λ k. omega (arith, c.type_inv.m k)) a.rows a.«end» c.requires.0 c.requires.1 c.skip_rows.ensures c.in-Err.is).0

pub overflow_add-result : goal.overflow_add-result
overflow_add-result c =
    let a = c.args in
    omega (arith, (rows_go a.types.now a.n a.m.now (λ k. omega (arith, c.type_inv.m k)) a.rows a.«end» c.requires.0 c.requires.1 c.skip_rows.ensures c.in-Ok.is).1)

pub returns-in-Ok : goal.returns-in-Ok
returns-in-Ok c =
    let a = c.args in
    (rows_go a.types.now a.n a.m.now (λ k. omega (arith, c.type_inv.m k)) a.rows a.«end» c.requires.0 c.requires.1 c.skip_rows.ensures c.in-Ok.is).0
