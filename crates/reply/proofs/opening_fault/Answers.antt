-- `reply::opening_fault` meets its contract: its tests are the definition's, in its order. Assumes nothing.
use mathlib.Core.Path.{ap, ap₂, ◌∙◌}
use mathlib.Core.Bool.{Bool}
use Rattle.format.specs.Result.{pick}
use Rattle.format.specs.Format.{fine}
use Rattle.format.specs.Text.{utf8}
use Rattle.format.specs.Value.{anything}
use Rattle.put.specs.Put.{given}
use Rattle.steps.specs.Plans.{also}
use Rattle.steps.specs.Arguments.{text_fault, null_text_fault, opening_fault}
use Rattle.reply.proofs.opening_fault.Goals as goal

pub returns : goal.returns
unfolding opening_fault
returns c =
    let first = c.let_in_fault-first.ensures ∙ ap (λ (t : Bool). pick t (null_text_fault utf8 0 (given c.args.status)) fine) c.has_flag.ensures in
    let second = c.let_in_fault-second.ensures ∙ ap (λ (t : Bool). pick t (null_text_fault utf8 0 (given c.args.app)) fine) c.has_flag-2.ensures in
    let third = c.exception_fault-third.ensures ∙ ap (λ (t : Bool). pick t (text_fault anything 0 c.args.exception.now) fine) c.has_flag-3.ensures in
    c.also-4.ensures
    ∙ ap₂ also c.test-edition.ensures (c.also-3.ensures
    ∙ ap₂ also c.test-flags.ensures (c.also-2.ensures
    ∙ ap₂ also first (c.also.ensures
    ∙ ap₂ also second third)))
