-- `outline::finish` meets its contract: its tests give its plan's answer, and what it writes and fills is its plan's. Assumes nothing.
use Prim.Native.Nat.{ℕ, ◌+◌, ◌≤◌}
use mathlib.Core.Path.{◌≡◌, sym, ap, ◌∙◌}
use mathlib.Core.List.{List}
use native.Mathlib.Omega.{arith}
use lib.ListN.{length}
use Rattle.format.specs.Number.{num_bytes}
use Rattle.format.specs.Geography.{body_kept}
use Rattle.put.specs.Put.{put}
use Rattle.write.proofs.Taken.{room}
use Rattle.outline.specs.Steps.{finish_area}
use Rattle.outline.proofs.Taken.{step_refused, step_accepted, step_taken, in_area}
use Rattle.outline.proofs.Answers.{finish_answer}
use Rattle.outline.proofs.finish.Goals as goal

pub judge-answer-requires : goal.judge-answer-requires
judge-answer-requires c =
    let st = c.args.st in
    let b = c.args.out.now in
    ((λ p. (in_area st (length b) (sym c.at_area-permitted.ensures ∙ p)).inside), omega arith, omega arith)

pub returns-in_default : goal.returns-in_default
returns-in_default c =
    let st = c.args.st in
    let b = c.args.out.now in
    let k = c.args.kept.now in
    let l : length k ≡ body_kept = omega (arith, c.block-1.given) in
    let e = finish_answer st (length b) k l c.at_area-permitted.ensures c.judge-answer.ensures in
    step_refused (finish_area k) st b e c.in_default.is

pub returns : goal.returns
returns c =
    let st = c.args.st in
    let b = c.args.out.now in
    let k = c.args.kept.now in
    let l : length k ≡ body_kept = omega (arith, c.block-1.given) in
    let e = finish_answer st (length b) k l c.at_area-permitted.ensures c.judge-answer.ensures in
    let a = step_accepted (finish_area k) st b e c.in-Ok.is in
    let h : st.position + body_kept ≤ length b = room a l in
    let holes = c.number_at.ensures.1 ∙ ap (λ (x : List ℕ). put x 2 (num_bytes 1 c.holes_of.result)) c.bytes_at.ensures.1 ∙ ap (λ (x : ℕ). put (put b st.position k) 2 (num_bytes 1 x)) c.holes_of.ensures in
    step_taken (finish_area k) st b e c.in-Ok.is c.nothing_open.ensures (c.number_at-2.ensures.1 ∙ ap (λ (x : List ℕ). put x 3 (num_bytes 4 st.rings)) holes)
