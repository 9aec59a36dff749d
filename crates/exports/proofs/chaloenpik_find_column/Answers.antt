-- `exports::chaloenpik_find_column` meets its contract: what the query answers, packed.
use mathlib.Core.Path.{ap, ◌∙◌}
use Rattle.numbers.specs.Packed.{packed, itself}
use Rattle.exports.proofs.chaloenpik_find_column.Goals as goal

pub returns : goal.returns
returns c = c.pack_answer.ensures ∙ ap (packed itself) c.find_column.ensures
