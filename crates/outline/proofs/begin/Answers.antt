-- `outline::begin` meets its contract: its test gives its plan's answer, and what it writes is its plan's. Assumes nothing.
use Prim.Native.Nat.{◌+◌, ◌≤◌}
use mathlib.Core.Path.{sym, ap, ◌∙◌}
use native.Mathlib.Omega.{arith}
use lib.ListN.{length}
use Rattle.put.specs.Put.{put}
use Rattle.put.proofs.Laws.{puts_number, puts_both}
use Rattle.write.proofs.Taken.{room}
use Rattle.outline.specs.State.{area_head, closed}
use Rattle.outline.specs.Steps.{begin_area}
use Rattle.outline.proofs.Bytes.{begun_bytes, begun_size}
use Rattle.outline.proofs.Taken.{step_refused, step_accepted, step_taken}
use Rattle.outline.proofs.Answers.{begin_answer}
use Rattle.outline.proofs.begin.Goals as goal

pub returns-in_default : goal.returns-in_default
returns-in_default c =
    let b = c.args.out.now in
    let first = c.args.edition in
    let next = c.args.internal in
    let e = begin_answer first next (length b) c.judge-answer.ensures in
    rw c.nothing_open.ensures (step_refused (begin_area first next) (closed 0) b e c.in_default.is)

pub returns : goal.returns
returns c =
    let b = c.args.out.now in
    let first = c.args.edition in
    let next = c.args.internal in
    let e = begin_answer first next (length b) c.judge-answer.ensures in
    let a = step_accepted (begin_area first next) (closed 0) b e c.in-Ok.is in
    let h : 0 + area_head ≤ length b = room a (begun_size first next) in
    let p = puts_number b 0 1 _ (omega arith) c.number_at-second.ensures in
    let q = puts_number c.number_at-second.new.out c.number_at-second.result 1 _ (omega arith) c.number_at-third.ensures in
    let r = puts_number c.number_at-third.new.out c.number_at-third.result 1 _ (omega arith) c.number_at-count.ensures in
    let t = puts_number c.number_at-count.new.out c.number_at-count.result 4 _ (omega arith) c.number_at.ensures in
    step_taken (begin_area first next) (closed 0) b e c.in-Ok.is c.between_rings.ensures ((puts_both p (puts_both q (puts_both r t))).is ∙ sym (ap (put b 0) (begun_bytes first next)))
