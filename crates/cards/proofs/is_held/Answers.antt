-- `cards::is_held` meets its contract: the test at the lower end, then that at the upper. Assumes nothing.
use borrow.Author.Tests.{lt-leb, le-leb}
use Rattle.cards.proofs.is_held.Goals as goal

pub returns-then-position-kind : goal.returns-then-position-kind
returns-then-position-kind c = rw (lt-leb _ _ c.if-position-kind.true)

pub returns : goal.returns
returns c = rw (le-leb _ _ c.if-position-kind.false)
