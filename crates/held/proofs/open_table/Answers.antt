-- `held::open_table` meets its contract: what is found of the columns, then the head, then the columns one by one.
use Rattle.columns.proofs.Opens.{opens_made}
use Rattle.held.proofs.open_table.Goals as goal

pub put_columns-requires : goal.put_columns-requires
put_columns-requires c = (opens_made c.args.st c.args.status c.args.names.now c.args.cols.now c.args.out.now c.args.types.now c.no_columns-z.ensures c.survey-a.ensures c.open_head-h.ensures).0

pub returns : goal.returns
returns c =
    let made = opens_made c.args.st c.args.status c.args.names.now c.args.cols.now c.args.out.now c.args.types.now c.no_columns-z.ensures c.survey-a.ensures c.open_head-h.ensures in
    made.1 c.put_columns.result c.put_columns.new.out c.put_columns.new.types c.put_columns.ensures
