-- `scan::is_null` meets its contract. Assumes nothing.
use Rattle.scan.proofs.is_null.Goals as goal

pub returns-then-nullable : goal.returns-then-nullable
returns-then-nullable c = simp c.if-nullable.true
