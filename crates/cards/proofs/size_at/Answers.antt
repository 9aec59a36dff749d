-- `cards::size_at` meets its contract: the size of the kind that the position has. Assumes nothing.
use mathlib.Core.Path.{◌∙◌, ap}
use Rattle.cards.specs.Card.{card_size}
use Rattle.cards.proofs.Forms.{few_bytes}
use Rattle.cards.proofs.size_at.Goals as goal

pub returns : goal.returns
returns c =
    let size = c.size_of.ensures ∙ ap card_size c.kind_of.ensures in
    (size, rw size (few_bytes c.args.position))
