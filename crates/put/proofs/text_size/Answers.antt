-- `put::text_size` meets its contract: by the text. Assumes nothing.
use mathlib.Core.Path.{sym}
use borrow.Author.Rules.{rules}
use Rattle.put.proofs.Laws.{sized_null, sized_some}
use Rattle.put.proofs.text_size.Goals as goal

pub returns-in-Some : goal.returns-in-Some
returns-in-Some c = (sym (rw c.in-Some.is (sized_some c.in-Some.s.now)), search rules)

pub returns-in-None : goal.returns-in-None
returns-in-None c = (sym (rw c.in-None.is sized_null), search rules)
