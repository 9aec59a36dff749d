-- `exports::chaloenpik_open_card` meets its contract: what opening the card answers, packed. Assumes nothing.
use mathlib.Core.Path.{ap, ◌∙◌}
use Rattle.numbers.specs.Packed.{packed, itself}
use Rattle.exports.proofs.chaloenpik_open_card.Goals as goal

pub returns : goal.returns
returns c = c.pack_answer.ensures ∙ ap (packed itself) c.open_card.ensures
