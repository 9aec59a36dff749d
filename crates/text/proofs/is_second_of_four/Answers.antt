-- `text::is_second_of_four` meets its contract: first byte by first byte. Assumes nothing.
use mathlib.Core.Path.{sym, ◌∙◌}
use borrow.Author.Tests.{eq-eqb, ne_eqb}
use Rattle.text.proofs.is_second_of_four.Goals as goal

pub returns-then-a-eq240 : goal.returns-then-a-eq240
returns-then-a-eq240 c = c.is_from_to.ensures ∙ rw (eq-eqb _ 0xf0 c.if-a-eq240.true)

pub returns-then-a-eq244 : goal.returns-then-a-eq244
returns-then-a-eq244 c = c.is_from_to-then-a-eq244.ensures ∙ rw (ne_eqb _ 0xf0 c.if-a-eq240.false, eq-eqb _ 0xf4 c.if-a-eq244.true)

pub returns-then-is_from_to : goal.returns-then-is_from_to
returns-then-is_from_to c =
    let middle = sym c.is_from_to-2.ensures ∙ c.if-is_from_to.true in
    c.is_tail.ensures ∙ rw (ne_eqb _ 0xf0 c.if-a-eq240.false, ne_eqb _ 0xf4 c.if-a-eq244.false, middle)

pub returns-else-is_from_to : goal.returns-else-is_from_to
returns-else-is_from_to c =
    let middle = sym c.is_from_to-2.ensures ∙ c.if-is_from_to.false in
    rw (ne_eqb _ 0xf0 c.if-a-eq240.false, ne_eqb _ 0xf4 c.if-a-eq244.false, middle) c.if-is_from_to.false
