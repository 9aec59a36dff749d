-- `call::body_element` meets its contract: its tests give its plan's answer, and what it writes is its plan's. Assumes nothing.
use Prim.Native.Nat.{ℕ, ◌+◌, ◌≤◌}
use mathlib.Core.Path.{sym, ap, ◌∙◌}
use mathlib.Core.List.{List, []}
use lib.ListN.{length}
use Rattle.format.specs.declared.Fault.TheVariants.{WireType}
use Rattle.put.specs.Put.{put, given, sized}
use Rattle.write.specs.Shown.{seen}
use Rattle.write.proofs.Taken.{step_refused, step_accepted, step_taken, room}
use Rattle.format.specs.Value.{body}
use Rattle.steps.specs.Plans.{also, test}
use Rattle.steps.specs.Arguments.{value_fault}
use Rattle.steps.specs.Steps.{element}
use Rattle.steps.proofs.Back.{also_fine}
use Rattle.write.proofs.Bytes.{body_bytes_lem}
use Rattle.call.proofs.Answers.{element_body}
use mathlib.Core.Path.{ap₂}
use lib.Dec.{eqb}
use Rattle.call.proofs.body_element.Goals as goal

pub returns-in_default : goal.returns-in_default
returns-in_default c = step_refused (element c.args.t (body (given c.args.text))) c.args.st c.args.out.now [] (element_body (seen c.args.st []) (length c.args.out.now) c.args.t (given c.args.text) c.at_array-permitted.ensures (c.also-fault.ensures ∙ ap₂ also c.test-kind.ensures c.body_fault.ensures) c.one_more-more.ensures c.text_size-bytes.ensures.0 c.judge-answer.ensures) c.in_default.is

pub returns : goal.returns
returns c =
    let a = step_accepted (element c.args.t (body (given c.args.text))) c.args.st c.args.out.now [] (element_body (seen c.args.st []) (length c.args.out.now) c.args.t (given c.args.text) c.at_array-permitted.ensures (c.also-fault.ensures ∙ ap₂ also c.test-kind.ensures c.body_fault.ensures) c.one_more-more.ensures c.text_size-bytes.ensures.0 c.judge-answer.ensures) c.in-Ok.is in
    let e = body_bytes_lem c.args.st.position 27 28 c.args.t (given c.args.text) (also_fine (test (eqb c.args.t c.args.st.inner_type) WireType c.args.st.position) (value_fault c.args.st.position c.args.t (body (given c.args.text))) a.fine.faultless).1 in
    let h : c.args.st.position + length (sized (given c.args.text)) ≤ (length c.args.out.now) = room a (ap length e) in
    step_taken (element c.args.t (body (given c.args.text))) c.args.st c.args.out.now [] (element_body (seen c.args.st []) (length c.args.out.now) c.args.t (given c.args.text) c.at_array-permitted.ensures (c.also-fault.ensures ∙ ap₂ also c.test-kind.ensures c.body_fault.ensures) c.one_more-more.ensures c.text_size-bytes.ensures.0 c.judge-answer.ensures) c.in-Ok.is c.in_array-state.ensures (c.text_at.ensures.1 ∙ sym (ap (λ (bs : List ℕ). put c.args.out.now c.args.st.position bs) e))
