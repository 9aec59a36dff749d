-- `query::after` meets its contract: where the bytes end.
use mathlib.Core.Path.{◌∙◌, ap}
use Rattle.query.specs.Shown.{past_of}
use Rattle.query.proofs.after.Goals as goal

pub returns : goal.returns
returns c = c.unwrap_or.ensures ∙ ap past_of c.skip_fixed.ensures
