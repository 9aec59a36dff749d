-- `areaexports::chaloenpik_area_owner` meets its contract: what the list answers, packed.
use mathlib.Core.Path.{ap, ◌∙◌}
use Rattle.numbers.specs.Packed.{packed, number_in}
use Rattle.areaexports.proofs.chaloenpik_area_owner.Goals as goal

pub returns : goal.returns
returns c = c.pack_owned.ensures ∙ ap (packed number_in) c.owner.ensures
