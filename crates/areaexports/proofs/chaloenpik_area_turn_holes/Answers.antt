-- `areaexports::chaloenpik_area_turn_holes` meets its contract: what the turning answers, packed, and what it left.
use mathlib.Core.Path.{ap, ◌∙◌}
use Rattle.numbers.specs.Packed.{packed, itself}
use Rattle.areaexports.proofs.chaloenpik_area_turn_holes.Goals as goal

pub returns : goal.returns
returns c = (c.pack_answer.ensures ∙ ap (packed itself) c.turn_holes.ensures.0, c.turn_holes.ensures.1)
