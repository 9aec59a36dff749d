-- `call::body_param` meets its contract: its tests give its plan's answer, and what it writes is its plan's. Assumes nothing.
use Prim.Native.Nat.{ℕ, ◌+◌, ◌≤◌}
use mathlib.Core.Path.{refl, sym, ap, ◌∙◌}
use mathlib.Core.List.{List, [], ◌++◌}
use native.Mathlib.Omega.{arith}
use lib.ListN.{length}
use Rattle.format.specs.Number.{num_bytes}
use Rattle.put.specs.Put.{put, given, sized}
use Rattle.put.proofs.Laws.{puts, puts_number, puts_both}
use Rattle.write.specs.Shown.{seen}
use Rattle.write.proofs.Taken.{step_refused, step_accepted, step_taken, room}
use Rattle.format.specs.Value.{body}
use Rattle.steps.specs.Steps.{one_param}
use Rattle.write.proofs.Bytes.{one_bytes, body_bytes_lem}
use Rattle.call.proofs.Answers.{body_size, body_answer}
use Rattle.call.proofs.body_param.Goals as goal

pub returns-in_default : goal.returns-in_default
returns-in_default c = step_refused (one_param c.args.t (body (given c.args.text))) c.args.st c.args.out.now [] (body_answer (seen c.args.st []) (length c.args.out.now) c.args.t (given c.args.text) c.at_call-permitted.ensures c.body_fault-fault.ensures c.one_more-more.ensures c.text_size-bytes.ensures.0 c.judge-answer.ensures) c.in_default.is

pub returns : goal.returns
returns c =
    let a = step_accepted (one_param c.args.t (body (given c.args.text))) c.args.st c.args.out.now [] (body_answer (seen c.args.st []) (length c.args.out.now) c.args.t (given c.args.text) c.at_call-permitted.ensures c.body_fault-fault.ensures c.one_more-more.ensures c.text_size-bytes.ensures.0 c.judge-answer.ensures) c.in-Ok.is in
    let h : c.args.st.position + (1 + length (sized (given c.args.text))) ≤ (length c.args.out.now) = room a (body_size c.args.st.position c.args.t (given c.args.text) a.fine.faultless) in
    let p = puts_number c.args.out.now c.args.st.position 1 c.args.t (omega arith) c.number_at-mid.ensures in
    let q = puts c.number_at-mid.new.out c.number_at-mid.result (length (sized (given c.args.text))) (sized (given c.args.text)) refl (omega arith) c.text_at.ensures in
    let e = one_bytes c.args.st.position c.args.t (body (given c.args.text)) a.fine.faultless ∙ ap (λ (bs : List ℕ). num_bytes 1 c.args.t ++ bs) (body_bytes_lem c.args.st.position 27 28 c.args.t (given c.args.text) a.fine.faultless) in
    step_taken (one_param c.args.t (body (given c.args.text))) c.args.st c.args.out.now [] (body_answer (seen c.args.st []) (length c.args.out.now) c.args.t (given c.args.text) c.at_call-permitted.ensures c.body_fault-fault.ensures c.one_more-more.ensures c.text_size-bytes.ensures.0 c.judge-answer.ensures) c.in-Ok.is c.between-state.ensures ((puts_both p q).is ∙ sym (ap (λ (bs : List ℕ). put c.args.out.now c.args.st.position bs) e))
