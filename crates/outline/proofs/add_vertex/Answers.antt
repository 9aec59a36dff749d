-- `outline::add_vertex` meets its contract: its tests give its plan's answer, and what it writes is its plan's. Assumes nothing.
use Prim.Native.Nat.{◌+◌, ◌≤◌}
use mathlib.Core.Path.{sym, ap, ◌∙◌}
use native.Mathlib.Omega.{arith}
use lib.ListN.{length}
use Rattle.put.specs.Put.{put}
use Rattle.put.proofs.Laws.{puts_number, puts_both}
use Rattle.write.proofs.Taken.{room}
use Rattle.outline.specs.Steps.{add_vertex}
use Rattle.outline.proofs.Bytes.{vertex_bytes, vertex_size}
use Rattle.outline.proofs.Taken.{step_refused, step_accepted, step_taken, in_ring}
use Rattle.outline.proofs.Answers.{vertex_answer}
use Rattle.outline.proofs.add_vertex.Goals as goal

pub judge-answer-requires : goal.judge-answer-requires
judge-answer-requires c =
    let st = c.args.st in
    let b = c.args.out.now in
    ((λ p. (in_ring st (length b) (sym c.at_ring-permitted.ensures ∙ p)).inside), omega arith, omega arith)

pub returns-in_default : goal.returns-in_default
returns-in_default c =
    let st = c.args.st in
    let b = c.args.out.now in
    let x = c.args.x in
    let y = c.args.y in
    let z = c.args.z in
    let e = vertex_answer st (length b) x y z c.at_ring-permitted.ensures c.one_more-more.ensures c.judge-answer.ensures in
    step_refused (add_vertex x y z) st b e c.in_default.is

pub returns : goal.returns
returns c =
    let st = c.args.st in
    let b = c.args.out.now in
    let x = c.args.x in
    let y = c.args.y in
    let z = c.args.z in
    let e = vertex_answer st (length b) x y z c.at_ring-permitted.ensures c.one_more-more.ensures c.judge-answer.ensures in
    let a = step_accepted (add_vertex x y z) st b e c.in-Ok.is in
    let h : st.position + 24 ≤ length b = room a (vertex_size x y z) in
    let p = puts_number b st.position 8 _ (omega arith) c.number_at-second.ensures in
    let q = puts_number c.number_at-second.new.out c.number_at-second.result 8 _ (omega arith) c.number_at-third.ensures in
    let r = puts_number c.number_at-third.new.out c.number_at-third.result 8 _ (omega arith) c.number_at.ensures in
    step_taken (add_vertex x y z) st b e c.in-Ok.is c.in_ring.ensures ((puts_both p (puts_both q r)).is ∙ sym (ap (put b st.position) (vertex_bytes x y z)))
