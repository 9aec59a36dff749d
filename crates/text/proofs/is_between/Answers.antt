-- `text::is_between` meets its contract: the test is the definition's. Assumes nothing.
use mathlib.Core.Path.{sym, ◌∙◌}
use borrow.Author.Tests.{not-true}
use Rattle.text.proofs.is_between.Goals as goal

pub returns : goal.returns
returns c = λ e. sym c.goes_on.ensures ∙ not-true _ e
