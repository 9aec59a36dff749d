-- `numbers::open_listed` meets its contract: what is found, what stands around the columns and what they leave is the step. Assumes nothing.
use Rattle.columns.proofs.Opens.{opens_made}
use Rattle.numbers.specs.Entries.{entries_of}
use Rattle.numbers.proofs.open_listed.Goals as goal

pub put_listed-requires : goal.put_listed-requires
put_listed-requires c =
    let a = c.args in
    (opens_made a.st a.status a.names.now (entries_of a.list.now) a.out.now a.types.now c.no_columns.ensures c.survey_listed-found.ensures c.open_head-head.ensures).0

pub returns : goal.returns
returns c =
    let a = c.args in
    (opens_made a.st a.status a.names.now (entries_of a.list.now) a.out.now a.types.now c.no_columns.ensures c.survey_listed-found.ensures c.open_head-head.ensures).1 _ _ _ c.put_listed.ensures
