-- `call::ask_begin` meets its contract: its tests are those of the plan, which writes so many bytes. Assumes nothing.
use Prim.Native.Nat.{ℕ, ◌+◌}
use mathlib.Core.Path.{refl, sym, ap, ap₂, ◌∙◌}
use Rattle.steps.specs.State.{closed}
use Rattle.steps.specs.Plans.{also}
use Rattle.steps.specs.Steps.{plan, begin_call}
use Rattle.write.proofs.Taken.{answered}
use Rattle.call.proofs.Written.{begun_size}
use Rattle.call.proofs.ask_begin.Goals as goal

pub returns : goal.returns
returns c =
    let a = c.args in
    answered (plan (begin_call a.version a.procedure.now a.client.now) (closed 0) a.size) a.size c.judge.ensures refl
    (c.also-fault.ensures ∙ ap₂ also c.test-edition.ensures c.text_fault.ensures)
    (λ u w. (refl, ap (λ (k : ℕ). 15 + k) c.text_size-bytes.ensures.0 ∙ sym (begun_size a.version a.procedure.now a.client.now (closed 0) a.size c.requires)))
