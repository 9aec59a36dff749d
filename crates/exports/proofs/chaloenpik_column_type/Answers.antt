-- `exports::chaloenpik_column_type` meets its contract: what the query answers, packed.
use mathlib.Core.Path.{ap, ◌∙◌}
use Rattle.numbers.specs.Packed.{packed, type_of}
use Rattle.exports.proofs.chaloenpik_column_type.Goals as goal

pub returns : goal.returns
returns c = c.pack_type.ensures ∙ ap (packed type_of) c.column.ensures
