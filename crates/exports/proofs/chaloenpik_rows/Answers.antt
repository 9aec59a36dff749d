-- `exports::chaloenpik_rows` meets its contract: what the query answers, packed.
use mathlib.Core.Path.{ap, ◌∙◌}
use Rattle.numbers.specs.Packed.{packed, rows_of}
use Rattle.exports.proofs.chaloenpik_rows.Goals as goal

pub returns : goal.returns
returns c = c.pack_rows.ensures ∙ ap (packed rows_of) c.table.ensures
