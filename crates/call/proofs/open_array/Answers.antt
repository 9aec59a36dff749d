-- `call::open_array` meets its contract: its tests give its plan's answer, and what it writes is its plan's. Assumes nothing.
use Prim.Native.Nat.{ℕ, ◌+◌, ◌≤◌}
use mathlib.Core.Path.{sym, ap, ◌∙◌}
use mathlib.Core.Bool.{Bool}
use mathlib.Core.List.{List, []}
use native.Mathlib.Omega.{arith}
use lib.ListN.{length}
use Rattle.format.specs.declared.Fault.TheVariants.{WireType}
use Rattle.put.specs.Put.{put}
use Rattle.put.proofs.Laws.{puts_number, puts_both}
use Rattle.steps.specs.State.{is_element}
use Rattle.write.specs.Shown.{seen}
use Rattle.write.proofs.Taken.{step_refused, step_accepted, step_taken, room}
use Rattle.steps.specs.Plans.{test}
use Rattle.steps.specs.Steps.{open_array}
use Rattle.steps.proofs.Params.{open_bytes}
use Rattle.steps.proofs.Back.{test_fine}
use Rattle.call.proofs.Answers.{open_answer, open_size, not_tiny}
use Rattle.call.proofs.open_array.Goals as goal

pub returns-in_default : goal.returns-in_default
returns-in_default c = step_refused (open_array c.args.t) c.args.st c.args.out.now [] (open_answer (seen c.args.st []) (length c.args.out.now) c.args.t c.at_call-permitted.ensures (c.test-fault.ensures ∙ ap (λ (b : Bool). test b WireType c.args.st.position) c.is_element.ensures) c.one_more-more.ensures c.judge-answer.ensures) c.in_default.is

pub returns : goal.returns
returns c =
    let a = step_accepted (open_array c.args.t) c.args.st c.args.out.now [] (open_answer (seen c.args.st []) (length c.args.out.now) c.args.t c.at_call-permitted.ensures (c.test-fault.ensures ∙ ap (λ (b : Bool). test b WireType c.args.st.position) c.is_element.ensures) c.one_more-more.ensures c.judge-answer.ensures) c.in-Ok.is in
    let h : c.args.st.position + 4 ≤ (length c.args.out.now) = room a (open_size c.args.t (test_fine (is_element c.args.t) _ c.args.st.position a.fine.faultless)) in
    let p = puts_number c.args.out.now c.args.st.position 1 157 (omega arith) c.number_at-mid.ensures in
    let q = puts_number c.number_at-mid.new.out c.number_at-mid.result 1 c.args.t (omega arith) c.number_at-count_at.ensures in
    let r = puts_number c.number_at-count_at.new.out c.number_at-count_at.result 2 0 (omega arith) c.number_at.ensures in
    step_taken (open_array c.args.t) c.args.st c.args.out.now [] (open_answer (seen c.args.st []) (length c.args.out.now) c.args.t c.at_call-permitted.ensures (c.test-fault.ensures ∙ ap (λ (b : Bool). test b WireType c.args.st.position) c.is_element.ensures) c.one_more-more.ensures c.judge-answer.ensures) c.in-Ok.is c.in_array-state.ensures ((puts_both p (puts_both q r)).is ∙ sym (ap (λ (bs : List ℕ). put c.args.out.now c.args.st.position bs) (open_bytes c.args.t (not_tiny c.args.t (test_fine (is_element c.args.t) _ c.args.st.position a.fine.faultless)))))
