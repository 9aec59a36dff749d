-- `columns::ascii_fault` meets its contract: the first byte that no name has is what the rule refuses. Assumes nothing.
use mathlib.Core.Path.{sym, ap, ◌∙◌}
use mathlib.Core.Bool.{Bool}
use borrow.Author.Rules.{rules}
use Rattle.format.specs.declared.Fault.TheVariants.{Name}
use Rattle.steps.specs.Plans.{test}
use Rattle.text.proofs.Finds.{finds_names}
use Rattle.write.proofs.Bytes.{fault_found}
use Rattle.columns.proofs.ascii_fault.Goals as goal

pub returns : goal.returns
returns c = let a = c.args in c.test.ensures ∙ ap (λ (b : Bool). test b Name a.at) (search rules) ∙ sym (fault_found finds_names a.at a.name.now)
