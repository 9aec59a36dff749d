-- `record::hash_size` meets its contract: by the hash version.
use borrow.Author.Tests.{eq-eqb, ne_eqb}
use Rattle.record.proofs.hash_size.Goals as goal

pub returns-then-h-eq1 : goal.returns-then-h-eq1
returns-then-h-eq1 c = simp (eq-eqb _ 1 c.if-h-eq1.true)

pub returns-else-h-eq1 : goal.returns-else-h-eq1
returns-else-h-eq1 c = simp (ne_eqb _ 1 c.if-h-eq1.false)
