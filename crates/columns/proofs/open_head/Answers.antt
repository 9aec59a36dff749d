-- `columns::open_head` meets its contract: a refusal writes nothing; else what stands around the columns is written. Assumes nothing.
use borrow.Author.Rules.{rules}
use Rattle.scan.proofs.Answers.{shown_stop}
use Rattle.columns.proofs.open_head.Goals as goal

pub returns-in_default : goal.returns-in_default
returns-in_default c = let refused = shown_stop _ c.ask_open_table-a.ensures c.in_default.is in search rules
