-- `write::columns_seen` meets its contract: by the test. Assumes nothing.
use borrow.Author.Tests.{le-leb, lt-leb}
use Rattle.write.proofs.columns_seen.Goals as goal

pub returns-then-n-le-COLUMNS : goal.returns-then-n-le-COLUMNS
returns-then-n-le-COLUMNS c = simp (le-leb _ _ c.if-n-le-COLUMNS.true)

pub returns-else-n-le-COLUMNS : goal.returns-else-n-le-COLUMNS
returns-else-n-le-COLUMNS c = simp (lt-leb _ _ c.if-n-le-COLUMNS.false)
