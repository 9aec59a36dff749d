-- `reply::put_opening` meets its contract: each part is written behind the last one. Assumes nothing.
use Prim.Native.Nat.{◌+◌}
use native.Mathlib.Omega.{arith}
use lib.ListN.{length}
use Rattle.put.proofs.Laws.{puts, puts_both}
use Rattle.put.specs.Put.{given}
use Rattle.reply.specs.Opening.{status_part, app_part, exception_part, front_bytes, middle_bytes, end_bytes}
use Rattle.reply.proofs.Openings.{front_length, middle_length, end_length}
use Rattle.reply.proofs.put_opening.Goals as goal

pub returns : goal.returns
returns c =
    let p = puts c.args.out.now 0 15 (front_bytes c.args.h c.args.client.now) (front_length c.args.h c.args.client.now c.requires.0) (omega arith) c.front_at-middle.ensures in
    let q = puts c.front_at-middle.new.out c.front_at-middle.result (length (status_part c.args.h (given c.args.status)) + (1 + length (app_part c.args.h (given c.args.app)))) (middle_bytes c.args.h (given c.args.status) (given c.args.app)) (middle_length c.args.h (given c.args.status) (given c.args.app)) (omega arith) c.middle_at-last.ensures in
    let r = puts c.middle_at-last.new.out c.middle_at-last.result (4 + (length (exception_part c.args.h c.args.exception.now) + 2)) (end_bytes c.args.h c.args.exception.now) (end_length c.args.h c.args.exception.now) (omega arith) c.end_at.ensures in
    (puts_both p (puts_both q r)).is
