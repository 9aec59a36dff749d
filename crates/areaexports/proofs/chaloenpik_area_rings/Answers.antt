-- `areaexports::chaloenpik_area_rings` meets its contract: what the question answers, packed.
use mathlib.Core.Path.{ap, ◌∙◌}
use Rattle.numbers.specs.Packed.{packed, itself}
use Rattle.areaexports.proofs.chaloenpik_area_rings.Goals as goal

pub returns : goal.returns
returns c = c.pack_answer.ensures ∙ ap (packed itself) c.rings.ensures
