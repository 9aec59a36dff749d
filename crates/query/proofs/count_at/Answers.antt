-- `query::count_at` meets its contract: the number that is read.
use Rattle.query.proofs.count_at.Goals as goal

pub returns : goal.returns
returns c = c.number_at.ensures
