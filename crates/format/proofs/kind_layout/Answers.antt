-- `format::kind_layout` meets its contract, by its test. Assumes nothing.
use borrow.Author.Tests.{le-leb, lt-leb}
use Rattle.format.proofs.kind_layout.Goals as goal

pub returns-then-kind-le4 : goal.returns-then-kind-le4
returns-then-kind-le4 c = rw (le-leb c.args.kind 4 c.if-kind-le4.true)

pub returns-else-kind-le4 : goal.returns-else-kind-le4
returns-else-kind-le4 c = rw (lt-leb c.args.kind 4 c.if-kind-le4.false)
