-- `scan::is_column` meets its contract: each type of a column is asked for. Assumes nothing.
use mathlib.Core.Path.{ap₂, ◌∙◌}
use mathlib.Core.Bool.{◌||◌}
use Rattle.scan.proofs.Columns.{column_is}
use Rattle.scan.proofs.is_column.Goals as goal

pub returns : goal.returns
returns c =
    let a = c.args in
    let low = c.either-low.ensures ∙ ap₂ ◌||◌ c.one_of.ensures c.one_of-2.ensures in
    let high = c.either-high.ensures ∙ ap₂ ◌||◌ c.one_of-3.ensures c.one_of-4.ensures in
    c.either.ensures ∙ ap₂ ◌||◌ low high ∙ column_is a.t
