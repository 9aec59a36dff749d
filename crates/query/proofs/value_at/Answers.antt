-- `query::value_at` meets its contract: the value that is read, shown.
use mathlib.Core.Path.{◌∙◌, ap}
use Rattle.query.specs.Shown.{cell_in}
use Rattle.query.proofs.value_at.Goals as goal

pub returns : goal.returns
returns c = c.cell_in.ensures ∙ ap cell_in c.read_value.ensures
