-- `text::high_byte` meets its contract: what is said of the bytes that are left is what is said of all. Assumes nothing.
use mathlib.Core.Path.{sym, ap, ◌∙◌}
use lib.ListN.{length}
use native.Mathlib.Omega.{arith}
use Rattle.format.specs.Value.{ascii_from}
use Rattle.text.specs.Shown.{shown_at}
use Rattle.text.proofs.Runs.{ascii_low, ascii_done, run}
use Rattle.text.proofs.high_byte.Goals as goal

pub returns-then-is_ascii_by : goal.returns-then-is_ascii_by
returns-then-is_ascii_by c =
    let b = c.args.b.now in
    ap shown_at (sym (ascii_done b (length b) (omega arith)) ∙ run ascii_from ascii_low b (length b) (omega arith) (c.is_ascii_by.ensures c.if-is_ascii_by.true))
