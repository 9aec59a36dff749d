-- `call::fixed_element` meets its contract: its tests give its plan's answer, and what it writes is its plan's. Assumes nothing.
use Prim.Native.Nat.{ℕ, ◌+◌, ◌*◌, ◌^◌, ◌≤◌}
use mathlib.Core.Path.{sym, ap, ◌∙◌}
use mathlib.Core.List.{List, []}
use lib.ListN.{length}
use Rattle.format.specs.declared.Fault.TheVariants.{WireType}
use Rattle.format.proofs.Numbers.{length-num_bytes}
use Rattle.put.specs.Put.{put}
use Rattle.write.specs.Shown.{seen}
use Rattle.write.proofs.Taken.{step_refused, step_accepted, step_taken, room}
use Rattle.format.specs.Value.{fixed, width_of}
use Rattle.steps.specs.Plans.{also, test}
use Rattle.steps.specs.Arguments.{value_fault}
use Rattle.steps.specs.Steps.{element}
use Rattle.steps.proofs.Back.{also_fine}
use Rattle.write.proofs.Bytes.{fixed_bytes}
use Rattle.call.proofs.Answers.{element_fixed}
use mathlib.Core.Path.{ap₂}
use lib.Dec.{eqb}
use Rattle.call.proofs.fixed_element.Goals as goal

pub returns-in_default : goal.returns-in_default
returns-in_default c = step_refused (element c.args.t (fixed (c.args.upper * 2 ^ 64 + c.args.lower))) c.args.st c.args.out.now [] (element_fixed (seen c.args.st []) (length c.args.out.now) c.args.t (c.args.upper * 2 ^ 64 + c.args.lower) c.at_array-permitted.ensures (c.also-fault.ensures ∙ ap₂ also c.test-kind.ensures c.fixed_fault.ensures) c.one_more-more.ensures c.width_of.ensures c.judge-answer.ensures) c.in_default.is

pub returns : goal.returns
returns c =
    let a = step_accepted (element c.args.t (fixed (c.args.upper * 2 ^ 64 + c.args.lower))) c.args.st c.args.out.now [] (element_fixed (seen c.args.st []) (length c.args.out.now) c.args.t (c.args.upper * 2 ^ 64 + c.args.lower) c.at_array-permitted.ensures (c.also-fault.ensures ∙ ap₂ also c.test-kind.ensures c.fixed_fault.ensures) c.one_more-more.ensures c.width_of.ensures c.judge-answer.ensures) c.in-Ok.is in
    let e = fixed_bytes c.args.st.position 27 28 c.args.t (c.args.upper * 2 ^ 64 + c.args.lower) (also_fine (test (eqb c.args.t c.args.st.inner_type) WireType c.args.st.position) (value_fault c.args.st.position c.args.t (fixed (c.args.upper * 2 ^ 64 + c.args.lower))) a.fine.faultless).1 in
    let h : c.args.st.position + width_of c.args.t ≤ (length c.args.out.now) = room a (ap length e ∙ length-num_bytes (width_of c.args.t) (c.args.upper * 2 ^ 64 + c.args.lower)) in
    step_taken (element c.args.t (fixed (c.args.upper * 2 ^ 64 + c.args.lower))) c.args.st c.args.out.now [] (element_fixed (seen c.args.st []) (length c.args.out.now) c.args.t (c.args.upper * 2 ^ 64 + c.args.lower) c.at_array-permitted.ensures (c.also-fault.ensures ∙ ap₂ also c.test-kind.ensures c.fixed_fault.ensures) c.one_more-more.ensures c.width_of.ensures c.judge-answer.ensures) c.in-Ok.is c.in_array-state.ensures (c.fixed_at.ensures.1 ∙ sym (ap (λ (bs : List ℕ). put c.args.out.now c.args.st.position bs) e))
