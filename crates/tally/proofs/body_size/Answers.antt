-- `tally::body_size` meets its contract. Assumes nothing.
use Rattle.std.proofs.Common.{eq-eqb, ne_eqb}
use Rattle.tally.proofs.body_size.Goals as goal

pub returns-then-n-eq-NULL_LENGTH : goal.returns-then-n-eq-NULL_LENGTH
returns-then-n-eq-NULL_LENGTH c = rw (eq-eqb _ _ c.if-n-eq-NULL_LENGTH.true)

pub returns-else-n-eq-NULL_LENGTH : goal.returns-else-n-eq-NULL_LENGTH
returns-else-n-eq-NULL_LENGTH c = rw (ne_eqb _ _ c.if-n-eq-NULL_LENGTH.false)
