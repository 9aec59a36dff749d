-- `query::tables_counted` meets its contract: what comes before the count is passed.
use Rattle.query.proofs.tables_counted.Goals as goal

pub returns : goal.returns
returns c = c.pass_head.ensures
