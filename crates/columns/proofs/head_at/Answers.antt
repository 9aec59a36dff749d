-- `columns::head_at` meets its contract: its parts are written one after the other. Assumes nothing.
use Prim.Native.Nat.{◌+◌}
use native.Mathlib.Omega.{arith}
use Rattle.put.proofs.Laws.{puts_number, puts_both}
use Rattle.columns.proofs.head_at.Goals as goal

pub returns : goal.returns
returns c =
    let x = c.args in
    let p = puts_number x.out.now x.at 4 0 (omega arith) c.number_at-second.ensures in
    let q = puts_number c.number_at-second.new.out c.number_at-second.result 4 (3 + (x.s.n + x.s.size)) (omega arith) c.number_at-third.ensures in
    let r = puts_number c.number_at-third.new.out c.number_at-third.result 1 x.status (omega arith) c.number_at-fourth.ensures in
    let s = puts_number c.number_at-fourth.new.out c.number_at-fourth.result 2 x.s.n (omega arith) c.number_at.ensures in
    let all = puts_both p (puts_both q (puts_both r s)) in
    (omega arith, all.is)
