-- `reply::middle_at` meets its contract: each part is written behind the last one. Assumes nothing.
use native.Mathlib.Omega.{arith}
use Rattle.put.proofs.Laws.{puts_number, puts_both}
use Rattle.put.specs.Put.{given}
use Rattle.reply.specs.Opening.{status_part, app_part}
use Rattle.reply.proofs.Openings.{puts_whole}
use Rattle.reply.proofs.middle_at.Goals as goal

pub returns : goal.returns
returns c =
    let p = puts_whole c.args.out.now c.args.at (status_part c.args.h (given c.args.status)) (omega arith) (rw c.has_flag.ensures at c.let_in_at-first.ensures) in
    let q = puts_number c.let_in_at-first.new.out c.let_in_at-first.result 1 c.args.h.app_status (omega arith) c.number_at-second.ensures in
    let r = puts_whole c.number_at-second.new.out c.number_at-second.result (app_part c.args.h (given c.args.app)) (omega arith) (rw c.has_flag-2.ensures at c.let_in_at.ensures) in
    let s = puts_both p (puts_both q r) in
    (s.ends, s.is)
