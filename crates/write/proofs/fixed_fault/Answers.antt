-- `write::fixed_fault` meets its contract: the type, then its rule. Assumes nothing.
use mathlib.Core.Path.{sym, ◌∙◌}
use borrow.Author.Tests.{not-true, not-false}
use Rattle.steps.specs.Arguments.{value_fault}
use Rattle.write.proofs.fixed_fault.Goals as goal

pub returns-then-not-is_number_of : goal.returns-then-not-is_number_of
unfolding value_fault
returns-then-not-is_number_of c = let i = c.is_number_of in sym (rw (sym i.ensures ∙ not-true i.result c.if-not-is_number_of.true-raw))

pub returns : goal.returns
unfolding value_fault
returns c = let i = c.is_number_of in c.rule_fault.ensures ∙ sym (rw (sym i.ensures ∙ not-false i.result c.if-not-is_number_of.false-raw))
