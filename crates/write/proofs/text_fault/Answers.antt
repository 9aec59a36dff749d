-- `write::text_fault` meets its contract: its length's limit, and then its rule. Assumes nothing.
use mathlib.Core.Path.{sym, ap, ◌∙◌}
use borrow.Author.Rules.{rules}
use mathlib.Core.Bool.{Bool}
use Rattle.format.specs.declared.Fault.TheVariants.{Text}
use Rattle.steps.specs.Plans.{test}
use Rattle.write.proofs.Bytes.{text_short}
use Rattle.write.proofs.text_fault.Goals as goal

pub returns : goal.returns
returns c =
    let a = c.args in
    c.test.ensures ∙ ap (λ (b : Bool). test b Text a.at) (search rules) ∙ sym (text_short a.at a.s.now c.if-s-gt-MOST_BYTES.false)
