-- `text::four` meets its contract: only the lines of UTF8-4 are left for such a first byte. Assumes nothing.
use mathlib.Core.Path.{refl, sym, ◌∙◌}
use mathlib.Core.Bool.{true, false}
use borrow.Author.Tests.{not-true, not-false}
use Rattle.format.specs.Text.{tail}
use Rattle.text.proofs.Sequences.{four_of}
use Rattle.text.proofs.four.Goals as goal

pub returns-then-not-is_second_of_four : goal.returns-then-not-is_second_of_four
returns-then-not-is_second_of_four c =
    let a = c.args in
    four_of a.a a.b a.c a.d false (tail a.c) (tail a.d) c.requires (sym (not-true _ c.if-not-is_second_of_four.true-raw) ∙ c.is_second_of_four.ensures) refl refl

pub returns-then-not-is_tail : goal.returns-then-not-is_tail
returns-then-not-is_tail c =
    let a = c.args in
    let second = sym (not-false _ c.if-not-is_second_of_four.false-raw) ∙ c.is_second_of_four.ensures in
    four_of a.a a.b a.c a.d true false (tail a.d) c.requires second (sym (not-true _ c.if-not-is_tail.true-raw) ∙ c.is_tail.ensures) refl

pub returns-then-is_tail : goal.returns-then-is_tail
returns-then-is_tail c =
    let a = c.args in
    let second = sym (not-false _ c.if-not-is_second_of_four.false-raw) ∙ c.is_second_of_four.ensures in
    let third = sym (not-false _ c.if-not-is_tail.false-raw) ∙ c.is_tail.ensures in
    four_of a.a a.b a.c a.d true true true c.requires second third (sym c.if-is_tail.true ∙ c.is_tail-2.ensures)

pub returns-else-is_tail : goal.returns-else-is_tail
returns-else-is_tail c =
    let a = c.args in
    let second = sym (not-false _ c.if-not-is_second_of_four.false-raw) ∙ c.is_second_of_four.ensures in
    let third = sym (not-false _ c.if-not-is_tail.false-raw) ∙ c.is_tail.ensures in
    four_of a.a a.b a.c a.d true true false c.requires second third (sym c.if-is_tail.false ∙ c.is_tail-2.ensures)
