-- `outline::close_ring` meets its contract: its tests give its plan's answer, and what it writes and fills is its plan's. Assumes nothing.
use Prim.Native.Nat.{ℕ, ◌+◌, ◌≤◌}
use mathlib.Core.Path.{◌≡◌, refl, sym, ap, ◌∙◌}
use mathlib.Core.List.{List}
use native.Mathlib.Omega.{arith}
use lib.ListN.{length}
use Rattle.format.specs.Number.{num_bytes}
use Rattle.format.specs.Geography.{ring_kept}
use Rattle.put.specs.Put.{put}
use Rattle.put.proofs.Laws.{puts}
use Rattle.write.proofs.Taken.{room}
use Rattle.outline.specs.Steps.{close_ring}
use Rattle.outline.proofs.Taken.{step_refused, step_accepted, step_taken, in_ring}
use Rattle.outline.proofs.Answers.{close_answer}
use Rattle.outline.proofs.close_ring.Goals as goal

pub judge-answer-requires : goal.judge-answer-requires
judge-answer-requires c =
    let st = c.args.st in
    let b = c.args.out.now in
    ((λ p. (in_ring st (length b) (sym c.at_ring-permitted.ensures ∙ p)).inside), omega arith, omega arith)

pub returns-in_default : goal.returns-in_default
returns-in_default c =
    let st = c.args.st in
    let b = c.args.out.now in
    let k = c.args.kept.now in
    let l : length k ≡ ring_kept = omega (arith, c.block-1.given) in
    let e = close_answer st (length b) k l c.at_ring-permitted.ensures c.judge-answer.ensures in
    step_refused (close_ring k) st b e c.in_default.is

pub overflow_add-st : goal.overflow_add-st
overflow_add-st c =
    let st = c.args.st in
    let b = c.args.out.now in
    let k = c.args.kept.now in
    let l : length k ≡ ring_kept = omega (arith, c.block-1.given) in
    let e = close_answer st (length b) k l c.at_ring-permitted.ensures c.judge-answer.ensures in
    let a = step_accepted (close_ring k) st b e c.in-Ok.is in
    let h : st.position + ring_kept ≤ length b = room a l in
    let o = in_ring st (length b) a.fine.permitted in
    omega (arith, o.begun, o.inside)

pub number_at-requires : goal.number_at-requires
number_at-requires c =
    let st = c.args.st in
    let b = c.args.out.now in
    let k = c.args.kept.now in
    let l : length k ≡ ring_kept = omega (arith, c.block-1.given) in
    let e = close_answer st (length b) k l c.at_ring-permitted.ensures c.judge-answer.ensures in
    let a = step_accepted (close_ring k) st b e c.in-Ok.is in
    let h : st.position + ring_kept ≤ length b = room a l in
    let o = in_ring st (length b) a.fine.permitted in
    let p = puts b st.position (length k) k refl (omega arith) c.bytes_at.ensures in
    omega (arith, o.begun, o.inside, p.kept)

pub returns : goal.returns
returns c =
    let st = c.args.st in
    let b = c.args.out.now in
    let k = c.args.kept.now in
    let l : length k ≡ ring_kept = omega (arith, c.block-1.given) in
    let e = close_answer st (length b) k l c.at_ring-permitted.ensures c.judge-answer.ensures in
    let a = step_accepted (close_ring k) st b e c.in-Ok.is in
    let h : st.position + ring_kept ≤ length b = room a l in
    step_taken (close_ring k) st b e c.in-Ok.is c.between_rings.ensures
    (c.number_at.ensures.1 ∙ ap (λ (x : List ℕ). put x (st.ring_at + 1) (num_bytes 4 st.vertices)) c.bytes_at.ensures.1)
