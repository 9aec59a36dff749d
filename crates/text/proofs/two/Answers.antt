-- `text::two` meets its contract: only the line UTF8-2 of the grammar is left for such a first byte. Assumes nothing.
use mathlib.Core.Path.{refl, sym, ◌∙◌}
use mathlib.Core.Bool.{true, false}
use borrow.Author.Tests.{le-leb, lt-leb}
use Rattle.format.specs.Text.{tail}
use Rattle.text.proofs.Sequences.{two_of}
use Rattle.text.proofs.two.Goals as goal

pub returns-then-a-lt194 : goal.returns-then-a-lt194
returns-then-a-lt194 c =
    let a = c.args in
    λ d e. two_of a.a a.b d e false (tail a.b) c.requires.0 c.requires.1 (sym (lt-leb 0xc2 a.a c.if-a-lt194.true)) refl

pub returns-then-is_tail : goal.returns-then-is_tail
returns-then-is_tail c =
    let a = c.args in
    λ d e. two_of a.a a.b d e true true c.requires.0 c.requires.1 (sym (le-leb 0xc2 a.a c.if-a-lt194.false)) (sym c.if-is_tail.true ∙ c.is_tail.ensures)

pub returns-else-is_tail : goal.returns-else-is_tail
returns-else-is_tail c =
    let a = c.args in
    λ d e. two_of a.a a.b d e true false c.requires.0 c.requires.1 (sym (le-leb 0xc2 a.a c.if-a-lt194.false)) (sym c.if-is_tail.false ∙ c.is_tail.ensures)
