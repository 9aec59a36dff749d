-- `call::bytes_param` meets its contract: its tests give its plan's answer, and what it writes is its plan's. Assumes nothing.
use Prim.Native.Nat.{ℕ, ◌+◌, ◌≤◌}
use mathlib.Core.Path.{refl, sym, ap, ◌∙◌}
use mathlib.Core.List.{List, []}
use native.Mathlib.Omega.{arith}
use lib.ListN.{length}
use Rattle.put.specs.Put.{put, sized}
use Rattle.put.proofs.Laws.{puts, puts_number, puts_both}
use Rattle.write.specs.Shown.{seen}
use Rattle.write.proofs.Taken.{step_refused, step_accepted, step_taken, room}
use Rattle.format.specs.Value.{t_array, t_tinyint}
use Rattle.steps.specs.Steps.{bytes_param}
use Rattle.write.proofs.Bytes.{array_bytes}
use Rattle.call.proofs.Answers.{array_size, bytes_answer}
use mathlib.Core.Option.{some}
use Rattle.call.proofs.bytes_param.Goals as goal

pub returns-in_default : goal.returns-in_default
returns-in_default c = step_refused (bytes_param c.args.s.now) c.args.st c.args.out.now [] (bytes_answer (seen c.args.st []) (length c.args.out.now) c.args.s.now c.at_call-permitted.ensures c.bytes_fault-fault.ensures c.one_more-more.ensures c.text_size-bytes.ensures.0 c.judge-answer.ensures) c.in_default.is

pub returns : goal.returns
returns c =
    let h : c.args.st.position + (2 + length (sized (some c.args.s.now))) ≤ (length c.args.out.now) = room (step_accepted (bytes_param c.args.s.now) c.args.st c.args.out.now [] (bytes_answer (seen c.args.st []) (length c.args.out.now) c.args.s.now c.at_call-permitted.ensures c.bytes_fault-fault.ensures c.one_more-more.ensures c.text_size-bytes.ensures.0 c.judge-answer.ensures) c.in-Ok.is) (array_size c.args.s.now) in
    let p = puts_number c.args.out.now c.args.st.position 1 t_array (omega arith) c.number_at-kind.ensures in
    let q = puts_number c.number_at-kind.new.out c.number_at-kind.result 1 t_tinyint (omega arith) c.number_at-mid.ensures in
    let r = puts c.number_at-mid.new.out c.number_at-mid.result (length (sized (some c.args.s.now))) (sized (some c.args.s.now)) refl (omega arith) c.text_at.ensures in
    step_taken (bytes_param c.args.s.now) c.args.st c.args.out.now [] (bytes_answer (seen c.args.st []) (length c.args.out.now) c.args.s.now c.at_call-permitted.ensures c.bytes_fault-fault.ensures c.one_more-more.ensures c.text_size-bytes.ensures.0 c.judge-answer.ensures) c.in-Ok.is c.between-state.ensures ((puts_both p (puts_both q r)).is ∙ sym (ap (λ (bs : List ℕ). put c.args.out.now c.args.st.position bs) (array_bytes c.args.s.now)))
