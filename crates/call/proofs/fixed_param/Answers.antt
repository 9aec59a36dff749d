-- `call::fixed_param` meets its contract: its tests give its plan's answer, and what it writes is its plan's. Assumes nothing.
use Prim.Native.Nat.{ℕ, ◌+◌, ◌*◌, ◌^◌, ◌≤◌}
use mathlib.Core.Path.{sym, ap, ◌∙◌}
use mathlib.Core.List.{List, [], ◌++◌}
use native.Mathlib.Omega.{arith}
use lib.ListN.{length}
use Rattle.format.specs.Number.{num_bytes}
use Rattle.format.proofs.Numbers.{length-num_bytes}
use Rattle.put.specs.Put.{put}
use Rattle.put.proofs.Laws.{puts, puts_number, puts_both}
use Rattle.write.specs.Shown.{seen}
use Rattle.write.proofs.Taken.{step_refused, step_accepted, step_taken, room}
use Rattle.format.specs.Value.{fixed, width_of}
use Rattle.steps.specs.Steps.{one_param}
use Rattle.write.proofs.Bytes.{one_bytes, fixed_bytes}
use Rattle.call.proofs.Answers.{fixed_size, fixed_answer}
use Rattle.call.proofs.fixed_param.Goals as goal

pub returns-in_default : goal.returns-in_default
returns-in_default c = step_refused (one_param c.args.t (fixed (c.args.upper * 2 ^ 64 + c.args.lower))) c.args.st c.args.out.now [] (fixed_answer (seen c.args.st []) (length c.args.out.now) c.args.t (c.args.upper * 2 ^ 64 + c.args.lower) c.at_call-permitted.ensures c.fixed_fault-fault.ensures c.one_more-more.ensures c.width_of-bytes.ensures c.judge-answer.ensures) c.in_default.is

pub returns : goal.returns
returns c =
    let a = step_accepted (one_param c.args.t (fixed (c.args.upper * 2 ^ 64 + c.args.lower))) c.args.st c.args.out.now [] (fixed_answer (seen c.args.st []) (length c.args.out.now) c.args.t (c.args.upper * 2 ^ 64 + c.args.lower) c.at_call-permitted.ensures c.fixed_fault-fault.ensures c.one_more-more.ensures c.width_of-bytes.ensures c.judge-answer.ensures) c.in-Ok.is in
    let h : c.args.st.position + (1 + width_of c.args.t) ≤ (length c.args.out.now) = room a (fixed_size c.args.st.position c.args.t (c.args.upper * 2 ^ 64 + c.args.lower) a.fine.faultless) in
    let p = puts_number c.args.out.now c.args.st.position 1 c.args.t (omega arith) c.number_at-mid.ensures in
    let q = puts c.number_at-mid.new.out c.number_at-mid.result (width_of c.args.t) (num_bytes (width_of c.args.t) (c.args.upper * 2 ^ 64 + c.args.lower)) (length-num_bytes (width_of c.args.t) (c.args.upper * 2 ^ 64 + c.args.lower)) (omega arith) c.fixed_at.ensures in
    let e = one_bytes c.args.st.position c.args.t (fixed (c.args.upper * 2 ^ 64 + c.args.lower)) a.fine.faultless ∙ ap (λ (bs : List ℕ). num_bytes 1 c.args.t ++ bs) (fixed_bytes c.args.st.position 27 28 c.args.t (c.args.upper * 2 ^ 64 + c.args.lower) a.fine.faultless) in
    step_taken (one_param c.args.t (fixed (c.args.upper * 2 ^ 64 + c.args.lower))) c.args.st c.args.out.now [] (fixed_answer (seen c.args.st []) (length c.args.out.now) c.args.t (c.args.upper * 2 ^ 64 + c.args.lower) c.at_call-permitted.ensures c.fixed_fault-fault.ensures c.one_more-more.ensures c.width_of-bytes.ensures c.judge-answer.ensures) c.in-Ok.is c.between-state.ensures ((puts_both p q).is ∙ sym (ap (λ (bs : List ℕ). put c.args.out.now c.args.st.position bs) e))
