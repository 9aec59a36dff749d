-- `tour::is_wanted` meets its contract, test by test. Assumes nothing.
use Rattle.std.proofs.Common.{le-ltb, lt-ltb, le-leb}
use borrow.Author.Tests.{lt-leb}
use Rattle.tour.proofs.is_wanted.Goals as goal

pub returns-then-task : goal.returns-then-task
returns-then-task c = rw (lt-leb _ _ c.if-task.true)

pub returns-then-end-task : goal.returns-then-end-task
returns-then-end-task c = rw (le-leb _ _ c.if-task.false, le-ltb _ _ c.if-end-task.true)

pub returns : goal.returns
returns c = rw (le-leb _ _ c.if-task.false, lt-ltb _ _ c.if-end-task.false)
