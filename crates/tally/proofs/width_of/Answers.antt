-- `tally::width_of` meets its contract: one digit of a number for each of the types below 16, and two more. Assumes nothing.
use Rattle.tally.proofs.Widths.{digit_width, no_width}
use Rattle.tally.proofs.width_of.Goals as goal

pub returns-then-t-lt16 : goal.returns-then-t-lt16
returns-then-t-lt16 c = digit_width c.args.t c.if-t-lt16.true

pub returns-then-t-eq-DECIMAL : goal.returns-then-t-eq-DECIMAL
returns-then-t-eq-DECIMAL c = rw c.if-t-eq-DECIMAL.true

pub returns-then-t-eq-POINT : goal.returns-then-t-eq-POINT
returns-then-t-eq-POINT c = rw c.if-t-eq-POINT.true

pub returns : goal.returns
returns c = no_width _ c.if-t-lt16.false c.if-t-eq-DECIMAL.false c.if-t-eq-POINT.false
