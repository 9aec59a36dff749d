-- `write::ruled_fault` meets its contract: the type says the rule. Assumes nothing.
use mathlib.Core.Path.{sym, ap, ap₂, ◌∙◌}
use Prim.Native.Nat.{ℕ}
use Rattle.format.specs.Value.{rule_of}
use Rattle.steps.specs.Plans.{also}
use Rattle.steps.specs.Arguments.{text_fault}
use Rattle.write.proofs.Bytes.{empty_is, geography_fault}
use Rattle.write.proofs.ruled_fault.Goals as goal

pub returns-in-27 : goal.returns-in-27
returns-in-27 c =
    let a = c.args in
    c.also.ensures ∙ ap₂ also c.bytes_fault.ensures (c.test.ensures ∙ sym (empty_is a.at a.s.now)) ∙ sym (geography_fault a.at a.s.now)
    ∙ sym (ap (λ (k : ℕ). text_fault (rule_of k) a.at a.s.now) c.in-27.is)
