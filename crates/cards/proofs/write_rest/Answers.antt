-- `cards::write_rest` meets its contract: its parts are put one after the other. Assumes nothing.
use mathlib.Core.Path.{refl, ◌∙◌}
use borrow.Author.Rules.{rules}
use Rattle.cards.proofs.Loops.{name_put}
use Rattle.cards.proofs.write_rest.Goals as goal

pub returns : goal.returns
returns c =
    let a = c.args in
    c.bytes_at.ensures.1 ∙ name_put a.out.now a.name.now c.fill.new.self a.wire_type _ _ c.requires.0 c.requires.1 refl (search rules) (c.fill.ensures.after (λ y same. same))
