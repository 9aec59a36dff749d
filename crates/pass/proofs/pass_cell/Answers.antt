-- `pass::pass_cell` meets its contract: a type with a size isn't a body's.
use mathlib.Core.Path.{◌∙◌}
use Rattle.pass.proofs.Values.{passes_plain, unsized}
use Rattle.pass.proofs.pass_cell.Goals as goal

pub returns : goal.returns
returns c = λ l b.
    let a = c.args in
    let w = c.width_of-width.ensures in
    passes_plain a.s.now l b a.t (λ is. c.if-width-eq0.false (w ∙ unsized a.t is)) (rw w at (c.pass_fixed.ensures b))
