-- `text::is_wrong` meets its contract: its tests are the definition's. Assumes nothing.
use mathlib.Core.Path.{ap₂, ◌∙◌}
use mathlib.Core.Bool.{◌||◌}
use Rattle.text.specs.Windows.{unlike}
use Rattle.text.proofs.is_wrong.Goals as goal

pub returns : goal.returns
returns c = c.either.ensures ∙ ap₂ ◌||◌ (c.differ.ensures ∙ ap₂ unlike c.goes_on.ensures c.both-tail.ensures) c.is_wrong_pair.ensures
