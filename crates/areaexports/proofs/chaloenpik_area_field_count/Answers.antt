-- `areaexports::chaloenpik_area_field_count` meets its contract: what the list answers, packed.
use mathlib.Core.Path.{ap, ◌∙◌}
use Rattle.numbers.specs.Packed.{packed, itself}
use Rattle.areaexports.proofs.chaloenpik_area_field_count.Goals as goal

pub returns : goal.returns
returns c = c.pack_answer.ensures ∙ ap (packed itself) c.count.ensures
