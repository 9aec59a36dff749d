-- `reply::end_at` meets its contract: each part is written behind the last one. Assumes nothing.
use native.Mathlib.Omega.{arith}
use Rattle.put.proofs.Laws.{puts_number, puts_both}
use Rattle.reply.specs.Opening.{exception_part}
use Rattle.reply.proofs.Openings.{puts_whole}
use Rattle.reply.proofs.end_at.Goals as goal

pub returns : goal.returns
returns c =
    let p = puts_number c.args.out.now c.args.at 4 c.args.h.round_trip (omega arith) c.number_at-first.ensures in
    let q = puts_whole c.number_at-first.new.out c.number_at-first.result (exception_part c.args.h c.args.exception.now) (omega arith) (rw c.has_flag.ensures at c.let_in_at-second.ensures) in
    let r = puts_number c.let_in_at-second.new.out c.let_in_at-second.result 2 0 (omega arith) c.number_at.ensures in
    let s = puts_both p (puts_both q r) in
    (s.ends, s.is)
