-- `query::over` meets its contract: where the jump ends.
use mathlib.Core.Path.{◌∙◌, ap}
use Rattle.query.specs.Shown.{past_of}
use Rattle.query.proofs.over.Goals as goal

pub returns : goal.returns
returns c = c.unwrap_or.ensures ∙ ap past_of c.jump.ensures
