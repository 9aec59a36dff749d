-- `text::three` meets its contract: only the lines of UTF8-3 are left for such a first byte. Assumes nothing.
use mathlib.Core.Path.{refl, sym, ◌∙◌}
use mathlib.Core.Bool.{true, false}
use borrow.Author.Tests.{not-true, not-false}
use Rattle.format.specs.Text.{tail}
use Rattle.text.proofs.Sequences.{three_of}
use Rattle.text.proofs.three.Goals as goal

pub returns-then-not-is_second_of_three : goal.returns-then-not-is_second_of_three
returns-then-not-is_second_of_three c =
    let a = c.args in
    λ d. three_of a.a a.b a.c d false (tail a.c) c.requires.0 c.requires.1 (sym (not-true _ c.if-not-is_second_of_three.true-raw) ∙ c.is_second_of_three.ensures) refl

pub returns-then-is_tail : goal.returns-then-is_tail
returns-then-is_tail c =
    let a = c.args in
    let second = sym (not-false _ c.if-not-is_second_of_three.false-raw) ∙ c.is_second_of_three.ensures in
    λ d. three_of a.a a.b a.c d true true c.requires.0 c.requires.1 second (sym c.if-is_tail.true ∙ c.is_tail.ensures)

pub returns-else-is_tail : goal.returns-else-is_tail
returns-else-is_tail c =
    let a = c.args in
    let second = sym (not-false _ c.if-not-is_second_of_three.false-raw) ∙ c.is_second_of_three.ensures in
    λ d. three_of a.a a.b a.c d true false c.requires.0 c.requires.1 second (sym c.if-is_tail.false ∙ c.is_tail.ensures)
