-- `call::finish_call` meets its contract: its tests give its plan's answer, and what it fills is its plan's. Assumes nothing.
use Prim.Native.Nat.{ℕ, ◌+◌, ◌-◌, ◌≤◌}
use mathlib.Core.Path.{sym, ap, ◌∙◌}
use mathlib.Core.List.{List, []}
use native.Mathlib.Omega.{arith}
use lib.ListN.{length}
use Rattle.format.specs.Number.{num_bytes}
use Rattle.put.specs.Put.{put}
use Rattle.put.proofs.Laws.{put_nothing}
use Rattle.steps.specs.declared.Stage.TheVariants.{Call}
use Rattle.write.specs.Shown.{seen}
use Rattle.write.proofs.Taken.{step_refused, step_accepted, step_taken}
use Rattle.steps.proofs.Sound.{at_stage_lem, between_call}
use Rattle.steps.specs.Steps.{finish_call}
use Rattle.call.proofs.Answers.{finish_answer}
use Rattle.call.proofs.finish_call.Goals as goal

pub returns-in_default : goal.returns-in_default
returns-in_default c = step_refused (finish_call) c.args.st c.args.out.now [] (finish_answer (seen c.args.st []) (length c.args.out.now) c.at_call-permitted.ensures c.judge-answer.ensures) c.in_default.is

pub overflow_sub-at : goal.overflow_sub-at
overflow_sub-at c =
    let o = between_call (seen c.args.st []) (length c.args.out.now) (at_stage_lem Call (seen c.args.st []) (length c.args.out.now) (step_accepted (finish_call) c.args.st c.args.out.now [] (finish_answer (seen c.args.st []) (length c.args.out.now) c.at_call-permitted.ensures c.judge-answer.ensures) c.in-Ok.is).fine.permitted) in
    let f : 4 ≤ c.args.st.count_at = o.own.front in
    let g : c.args.st.count_at + 2 ≤ c.args.st.position = o.behind in
    let h : c.args.st.position ≤ (length c.args.out.now) = o.own.fits in
    omega arith

pub number_at-requires : goal.number_at-requires
number_at-requires c =
    let o = between_call (seen c.args.st []) (length c.args.out.now) (at_stage_lem Call (seen c.args.st []) (length c.args.out.now) (step_accepted (finish_call) c.args.st c.args.out.now [] (finish_answer (seen c.args.st []) (length c.args.out.now) c.at_call-permitted.ensures c.judge-answer.ensures) c.in-Ok.is).fine.permitted) in
    let f : 4 ≤ c.args.st.count_at = o.own.front in
    let g : c.args.st.count_at + 2 ≤ c.args.st.position = o.behind in
    let h : c.args.st.position ≤ (length c.args.out.now) = o.own.fits in
    omega arith

pub number_at-requires-2 : goal.number_at-requires-2
number_at-requires-2 c =
    let o = between_call (seen c.args.st []) (length c.args.out.now) (at_stage_lem Call (seen c.args.st []) (length c.args.out.now) (step_accepted (finish_call) c.args.st c.args.out.now [] (finish_answer (seen c.args.st []) (length c.args.out.now) c.at_call-permitted.ensures c.judge-answer.ensures) c.in-Ok.is).fine.permitted) in
    let f : 4 ≤ c.args.st.count_at = o.own.front in
    let g : c.args.st.count_at + 2 ≤ c.args.st.position = o.behind in
    let h : c.args.st.position ≤ (length c.args.out.now) = o.own.fits in
    omega (arith, c.number_at.auto.out)

pub returns : goal.returns
returns c =
    let there = c.number_at.ensures.1 ∙ sym (ap (λ (b : List ℕ). put b 0 (num_bytes 4 (c.args.st.position - 4))) (put_nothing c.args.out.now c.args.st.position)) in
    step_taken (finish_call) c.args.st c.args.out.now [] (finish_answer (seen c.args.st []) (length c.args.out.now) c.at_call-permitted.ensures c.judge-answer.ensures) c.in-Ok.is c.finished-state.ensures (c.number_at-2.ensures.1 ∙ ap (λ (b : List ℕ). put b c.args.st.count_at (num_bytes 2 c.args.st.count)) there)
