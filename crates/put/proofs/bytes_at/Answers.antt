-- `put::bytes_at` meets its contract: the part from the place on is lent, and comes back with the bytes at its start. Assumes nothing.
use Rattle.put.proofs.Laws.{lent}
use borrow.Author.Rules.{rules}
use Rattle.put.proofs.bytes_at.Goals as goal

pub returns : goal.returns
returns c = (search rules, lent _ _ c.args.s.now _ c.requires c.put_bytes.ensures)
