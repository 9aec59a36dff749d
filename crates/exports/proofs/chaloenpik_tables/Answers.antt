-- `exports::chaloenpik_tables` meets its contract: what the query answers, packed.
use mathlib.Core.Path.{ap, ◌∙◌}
use Rattle.numbers.specs.Packed.{packed, itself}
use Rattle.exports.proofs.chaloenpik_tables.Goals as goal

pub returns : goal.returns
returns c = c.pack_answer.ensures ∙ ap (packed itself) c.tables.ensures
