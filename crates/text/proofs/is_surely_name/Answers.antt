-- `text::is_surely_name` meets its contract: where every byte is ASCII, the rule of names refuses none. Assumes nothing.
use mathlib.Core.Path.{◌≡◌, sym, ap, ◌∙◌}
use Prim.Native.Nat.{ℕ}
use mathlib.Core.List.{List}
use lib.ListN.{length}
use native.Mathlib.Omega.{arith}
use Rattle.format.specs.Format.{fine}
use Rattle.format.specs.Value.{ascii, ascii_from}
use Rattle.text.specs.Shown.{LowRun, shown_at}
use Rattle.text.proofs.Finds.{finds_names}
use Rattle.text.proofs.Runs.{ascii_low, ascii_done, run}
use Rattle.text.proofs.is_surely_name.Goals as goal

low-name : (b : List ℕ) → LowRun b 0 (length b) → ascii b ≡ fine
low-name b low = finds_names.passes b (ap shown_at (sym (run ascii_from ascii_low b (length b) (omega arith) low) ∙ ascii_done b (length b) (omega arith)))

pub returns-then-b-ge8 : goal.returns-then-b-ge8
returns-then-b-ge8 c = λ e. low-name c.args.b.now (c.is_ascii_by.ensures e)

pub returns-then-b-ge4 : goal.returns-then-b-ge4
returns-then-b-ge4 c = λ e. low-name c.args.b.now (c.is_ascii_by-then-b-ge4.ensures e)

pub returns-then-b-ge2 : goal.returns-then-b-ge2
returns-then-b-ge2 c = λ e. low-name c.args.b.now (c.is_ascii_by-then-b-ge2.ensures e)

pub returns : goal.returns
returns c = λ e. low-name c.args.b.now (c.is_short_ascii.ensures e)
