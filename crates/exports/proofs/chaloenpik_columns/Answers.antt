-- `exports::chaloenpik_columns` meets its contract: what the query answers, packed.
use mathlib.Core.Path.{ap, ◌∙◌}
use Rattle.numbers.specs.Packed.{packed, columns_of}
use Rattle.exports.proofs.chaloenpik_columns.Goals as goal

pub returns : goal.returns
returns c = c.pack_columns.ensures ∙ ap (packed columns_of) c.table.ensures
