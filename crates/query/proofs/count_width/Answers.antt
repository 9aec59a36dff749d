-- `query::count_width` meets its contract.
use borrow.Author.Tests.{eq-eqb, ne_eqb}
use Rattle.query.proofs.count_width.Goals as goal

pub returns-then-t-eq-TINYINT : goal.returns-then-t-eq-TINYINT
returns-then-t-eq-TINYINT c = rw (eq-eqb _ 3 c.if-t-eq-TINYINT.true)

pub returns-else-t-eq-TINYINT : goal.returns-else-t-eq-TINYINT
returns-else-t-eq-TINYINT c = rw (ne_eqb _ 3 c.if-t-eq-TINYINT.false)
