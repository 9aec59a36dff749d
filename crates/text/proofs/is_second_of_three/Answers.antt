-- `text::is_second_of_three` meets its contract: first byte by first byte. Assumes nothing.
use mathlib.Core.Path.{◌∙◌}
use borrow.Author.Tests.{eq-eqb, ne_eqb}
use Rattle.text.proofs.is_second_of_three.Goals as goal

pub returns-then-a-eq224 : goal.returns-then-a-eq224
returns-then-a-eq224 c = c.is_from_to.ensures ∙ rw (eq-eqb _ 0xe0 c.if-a-eq224.true)

pub returns-then-a-eq237 : goal.returns-then-a-eq237
returns-then-a-eq237 c = c.is_from_to-then-a-eq237.ensures ∙ rw (ne_eqb _ 0xe0 c.if-a-eq224.false, eq-eqb _ 0xed c.if-a-eq237.true)

pub returns : goal.returns
returns c = c.is_tail.ensures ∙ rw (ne_eqb _ 0xe0 c.if-a-eq224.false, ne_eqb _ 0xed c.if-a-eq237.false)
