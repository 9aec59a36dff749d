-- `call::null_param` meets its contract: its tests give its plan's answer, and what it writes is its plan's. Assumes nothing.
use Prim.Native.Nat.{ℕ}
use mathlib.Core.Path.{sym, ap, ◌∙◌}
use mathlib.Core.List.{List, []}
use lib.ListN.{length}
use Rattle.put.specs.Put.{put}
use Rattle.write.specs.Shown.{seen}
use Rattle.write.proofs.Taken.{step_refused, step_taken}
use Rattle.steps.specs.Steps.{null_param}
use Rattle.call.proofs.Written.{null_bytes}
use Rattle.call.proofs.Answers.{null_answer}
use Rattle.call.proofs.null_param.Goals as goal

pub returns-in_default : goal.returns-in_default
returns-in_default c = step_refused (null_param) c.args.st c.args.out.now [] (null_answer (seen c.args.st []) (length c.args.out.now) c.at_call-permitted.ensures c.one_more-more.ensures c.judge-answer.ensures) c.in_default.is

pub returns : goal.returns
returns c = step_taken (null_param) c.args.st c.args.out.now [] (null_answer (seen c.args.st []) (length c.args.out.now) c.at_call-permitted.ensures c.one_more-more.ensures c.judge-answer.ensures) c.in-Ok.is c.between-state.ensures (c.number_at.ensures.1 ∙ sym (ap (λ (bs : List ℕ). put c.args.out.now c.args.st.position bs) null_bytes))
