-- `reply::front_at` meets its contract: each part is written behind the last one. Assumes nothing.
use Prim.Native.Nat.{◌≤◌}
use native.Mathlib.Omega.{arith}
use lib.ListN.{length}
use Rattle.put.proofs.Laws.{puts, puts_number, puts_both}
use Rattle.reply.proofs.front_at.Goals as goal

pub returns : goal.returns
returns c =
    let room : 15 ≤ length c.args.out.now = c.requires.1 in
    let eight = c.requires.0 in
    let p = puts_number c.args.out.now 0 4 0 (omega arith) c.number_at-first.ensures in
    let q = puts_number c.number_at-first.new.out c.number_at-first.result 1 c.args.h.version (omega arith) c.number_at-second.ensures in
    let r = puts c.number_at-second.new.out c.number_at-second.result 8 c.args.client.now eight (omega arith) (rw eight at c.bytes_at-third.ensures) in
    let s = puts_number c.bytes_at-third.new.out c.bytes_at-third.result 1 c.args.h.flags (omega arith) c.number_at-fourth.ensures in
    let t = puts_number c.number_at-fourth.new.out c.number_at-fourth.result 1 c.args.h.status (omega arith) c.number_at.ensures in
    let u = puts_both p (puts_both q (puts_both r (puts_both s t))) in
    (u.ends, u.is)
