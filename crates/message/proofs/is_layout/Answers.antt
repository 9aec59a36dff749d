-- `message::is_layout` meets its contract: the second test is asked where the first passes. Assumes nothing.
use borrow.Author.Tests.{le-leb, lt-leb}
use Rattle.message.proofs.is_layout.Goals as goal

pub returns-then-layout-ge1 : goal.returns-then-layout-ge1
returns-then-layout-ge1 c = rw (le-leb 1 c.args.layout c.if-layout-ge1.true)

pub returns-else-layout-ge1 : goal.returns-else-layout-ge1
returns-else-layout-ge1 c = rw (lt-leb 1 c.args.layout c.if-layout-ge1.false)
