-- `exports::chaloenpik_make_card` meets its contract: what making the card answers, packed, and what it wrote. Assumes nothing.
use mathlib.Core.Path.{ap, ◌∙◌}
use Rattle.numbers.specs.Packed.{packed, itself}
use Rattle.exports.proofs.chaloenpik_make_card.Goals as goal

pub returns : goal.returns
returns c = let made = c.make_card.ensures in (c.pack_answer.ensures ∙ ap (packed itself) made.answer, made.buffer)
