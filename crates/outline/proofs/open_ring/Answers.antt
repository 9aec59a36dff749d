-- `outline::open_ring` meets its contract: its tests give its plan's answer, and what it writes is its plan's. Assumes nothing.
use Prim.Native.Nat.{◌+◌, ◌≤◌}
use mathlib.Core.Path.{sym, ap, ◌∙◌}
use native.Mathlib.Omega.{arith}
use lib.ListN.{length}
use Rattle.put.specs.Put.{put}
use Rattle.put.proofs.Laws.{puts_number, puts_both}
use Rattle.write.proofs.Taken.{room}
use Rattle.outline.specs.State.{ring_head}
use Rattle.outline.specs.Steps.{open_ring}
use Rattle.outline.proofs.Bytes.{opened_bytes, opened_size}
use Rattle.outline.proofs.Taken.{step_refused, step_accepted, step_taken, in_area}
use Rattle.outline.proofs.Answers.{open_answer}
use Rattle.outline.proofs.open_ring.Goals as goal

pub judge-answer-requires : goal.judge-answer-requires
judge-answer-requires c =
    let st = c.args.st in
    let b = c.args.out.now in
    ((λ p. (in_area st (length b) (sym c.at_area-permitted.ensures ∙ p)).inside), omega arith, omega arith)

pub returns-in_default : goal.returns-in_default
returns-in_default c =
    let st = c.args.st in
    let b = c.args.out.now in
    let e = open_answer st (length b) c.args.mark c.at_area-permitted.ensures c.one_more-more.ensures c.judge-answer.ensures in
    step_refused (open_ring c.args.mark) st b e c.in_default.is

pub returns : goal.returns
returns c =
    let st = c.args.st in
    let b = c.args.out.now in
    let e = open_answer st (length b) c.args.mark c.at_area-permitted.ensures c.one_more-more.ensures c.judge-answer.ensures in
    let a = step_accepted (open_ring c.args.mark) st b e c.in-Ok.is in
    let h : st.position + ring_head ≤ length b = room a (opened_size c.args.mark) in
    let p = puts_number b st.position 1 _ (omega arith) c.number_at-count.ensures in
    let q = puts_number c.number_at-count.new.out c.number_at-count.result 4 _ (omega arith) c.number_at.ensures in
    step_taken (open_ring c.args.mark) st b e c.in-Ok.is c.in_ring.ensures ((puts_both p q).is ∙ sym (ap (put b st.position) (opened_bytes c.args.mark)))
