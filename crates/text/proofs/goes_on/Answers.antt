-- `text::goes_on` meets its contract: its tests are the definition's. Assumes nothing.
use mathlib.Core.Path.{ap, ◌∙◌}
use mathlib.Core.Bool.{Bool, ◌||◌}
use lib.Dec.{leb}
use Rattle.text.proofs.goes_on.Goals as goal

pub returns : goal.returns
returns c = c.either-2.ensures ∙ ap (λ (t : Bool). leb 0xc0 c.args.c || t) c.either.ensures
