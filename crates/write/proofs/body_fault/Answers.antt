-- `write::body_fault` meets its contract: the type, and then its bytes, if it isn't null. Assumes nothing.
use mathlib.Core.Path.{sym, ap, ap₂, ◌∙◌}
use mathlib.Core.Bool.{Bool}
use Rattle.format.specs.declared.Fault.TheVariants.{WireType}
use Rattle.format.specs.Value.{is_counted}
use Rattle.steps.specs.Plans.{test, also}
use Rattle.steps.specs.Arguments.{value_fault}
use Rattle.write.proofs.Bytes.{also_none}
use Rattle.write.proofs.body_fault.Goals as goal

pub returns-in-Some : goal.returns-in-Some
unfolding value_fault
returns-in-Some c =
    let a = c.args in
    c.also.ensures ∙ ap₂ also (c.test-kind.ensures ∙ ap (λ (b : Bool). test b WireType a.at) c.is_counted.ensures) c.ruled_fault.ensures
    ∙ sym (rw c.in-Some.is)

pub returns-in-None : goal.returns-in-None
unfolding value_fault
returns-in-None c =
    let a = c.args in
    c.test-kind.ensures ∙ ap (λ (b : Bool). test b WireType a.at) c.is_counted.ensures ∙ sym (rw c.in-None.is (also_none (test (is_counted a.t) WireType a.at)))
