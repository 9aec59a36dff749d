-- `call::close_array` meets its contract: its tests give its plan's answer, and what it fills is its plan's. Assumes nothing.
use Prim.Native.Nat.{ℕ}
use mathlib.Core.Path.{sym, ap, ◌∙◌}
use mathlib.Core.List.{List, []}
use native.Mathlib.Omega.{arith}
use lib.ListN.{length}
use Rattle.format.specs.Number.{num_bytes}
use Rattle.put.specs.Put.{put}
use Rattle.put.proofs.Laws.{put_nothing}
use Rattle.steps.specs.declared.Stage.TheVariants.{Array}
use Rattle.write.specs.Shown.{seen}
use Rattle.write.proofs.Taken.{step_refused, step_accepted, step_taken}
use Rattle.steps.proofs.Sound.{at_stage_lem, within}
use Rattle.steps.specs.Steps.{close_array}
use Rattle.call.proofs.Answers.{close_answer}
use Rattle.call.proofs.close_array.Goals as goal

pub returns-in_default : goal.returns-in_default
returns-in_default c = step_refused (close_array) c.args.st c.args.out.now [] (close_answer (seen c.args.st []) (length c.args.out.now) c.at_array-permitted.ensures c.judge-answer.ensures) c.in_default.is

pub number_at-requires : goal.number_at-requires
number_at-requires c =
    let o = within (seen c.args.st []) (length c.args.out.now) (at_stage_lem Array (seen c.args.st []) (length c.args.out.now) (step_accepted (close_array) c.args.st c.args.out.now [] (close_answer (seen c.args.st []) (length c.args.out.now) c.at_array-permitted.ensures c.judge-answer.ensures) c.in-Ok.is).fine.permitted) in
    omega (arith, o.inside, o.own.fits)

pub returns : goal.returns
returns c = step_taken (close_array) c.args.st c.args.out.now [] (close_answer (seen c.args.st []) (length c.args.out.now) c.at_array-permitted.ensures c.judge-answer.ensures) c.in-Ok.is c.between-state.ensures (c.number_at.ensures.1 ∙ sym (ap (λ (b : List ℕ). put b c.args.st.inner_at (num_bytes 2 c.args.st.inner_count)) (put_nothing c.args.out.now c.args.st.position)))
