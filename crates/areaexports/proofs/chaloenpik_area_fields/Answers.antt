-- `areaexports::chaloenpik_area_fields` meets its contract: what the window answers, packed, and what it wrote.
use mathlib.Core.Path.{ap, ◌∙◌}
use Rattle.numbers.specs.Packed.{packed, itself}
use Rattle.areaexports.proofs.chaloenpik_area_fields.Goals as goal

pub returns : goal.returns
returns c = (c.pack_answer.ensures ∙ ap (packed itself) c.window.ensures.0, c.window.ensures.1)
