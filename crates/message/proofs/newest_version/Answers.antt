-- `message::newest_version` meets its contract, by its test. Assumes nothing.
use borrow.Author.Tests.{eq-eqb, ne_eqb}
use Rattle.message.proofs.newest_version.Goals as goal

pub returns-then-layout-eq-UNTIMED : goal.returns-then-layout-eq-UNTIMED
returns-then-layout-eq-UNTIMED c = rw (eq-eqb c.args.layout 5 c.if-layout-eq-UNTIMED.true)

pub returns-else-layout-eq-UNTIMED : goal.returns-else-layout-eq-UNTIMED
returns-else-layout-eq-UNTIMED c = rw (ne_eqb c.args.layout 5 c.if-layout-eq-UNTIMED.false)
