-- `text::is_wrong_pair` meets its contract: its tests are the definition's. Assumes nothing.
use mathlib.Core.Path.{ap, ap₂, ◌∙◌}
use mathlib.Core.Bool.{Bool, ◌||◌}
use lib.Dec.{leb}
use Rattle.text.proofs.is_wrong_pair.Goals as goal

pub returns : goal.returns
returns c =
    let none = c.either-none.ensures ∙ ap (λ (t : Bool). t || leb 0xf5 c.args.a) c.both.ensures in
    let three = c.either-three.ensures ∙ ap₂ ◌||◌ c.both-2.ensures c.both-3.ensures in
    let four = c.either-four.ensures ∙ ap₂ ◌||◌ c.both-4.ensures c.both-5.ensures in
    c.either-2.ensures ∙ ap₂ ◌||◌ none (c.either.ensures ∙ ap₂ ◌||◌ three four)
