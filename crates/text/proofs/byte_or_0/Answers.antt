-- `text::byte_or_0` meets its contract: a list gives 0 past its end. Assumes nothing.
use mathlib.Core.Path.{sym}
use Rattle.text.proofs.Runs.{past_end}
use Rattle.text.proofs.byte_or_0.Goals as goal

pub returns-else-i-b : goal.returns-else-i-b
returns-else-i-b c = let a = c.args in sym (past_end a.b.now a.i c.if-i-b.false)
