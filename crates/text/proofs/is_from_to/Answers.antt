-- `text::is_from_to` meets its contract: the second test is asked if the first one holds. Assumes nothing.
use borrow.Author.Tests.{le-leb, lt-leb}
use Rattle.text.proofs.is_from_to.Goals as goal

pub returns-then-low-b : goal.returns-then-low-b
returns-then-low-b c = let a = c.args in rw (le-leb a.low a.b c.if-low-b.true)

pub returns-else-low-b : goal.returns-else-low-b
returns-else-low-b c = let a = c.args in rw (lt-leb a.low a.b c.if-low-b.false)
