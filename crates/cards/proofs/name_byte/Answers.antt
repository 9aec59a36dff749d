-- `cards::name_byte` meets its contract: the test that its place asks for. Assumes nothing.
use borrow.Author.Tests.{lt-ltb, le-ltb}
use Rattle.cards.proofs.name_byte.Goals as goal

pub returns-then-k-size : goal.returns-then-k-size
returns-then-k-size c = rw (lt-ltb _ _ c.if-k-size.true)

pub returns-else-k-size : goal.returns-else-k-size
returns-else-k-size c = rw (le-ltb _ _ c.if-k-size.false)
