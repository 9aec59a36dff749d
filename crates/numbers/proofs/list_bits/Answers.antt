-- `numbers::list_bits` meets its contract: by the type, and of a point by whether its bits are those of a null. Assumes nothing.
use mathlib.Core.Path.{sym, ◌∙◌}
use borrow.Author.Tests.{eq-eqb, ne_eqb}
use Rattle.numbers.proofs.list_bits.Goals as goal

pub returns-then-t-ne-POINT : goal.returns-then-t-ne-POINT
returns-then-t-ne-POINT c = c.four.ensures ∙ sym (rw (ne_eqb _ _ c.if-t-ne-POINT.true))

pub returns-then-is_null_point : goal.returns-then-is_null_point
returns-then-is_null_point c = c.four-then-is_null_point.ensures ∙ sym (rw (eq-eqb _ _ c.if-t-ne-POINT.false, sym c.is_null_point.ensures ∙ c.if-is_null_point.true))

pub returns : goal.returns
returns c = c.four-2.ensures ∙ sym (rw (eq-eqb _ _ c.if-t-ne-POINT.false, sym c.is_null_point.ensures ∙ c.if-is_null_point.false))
