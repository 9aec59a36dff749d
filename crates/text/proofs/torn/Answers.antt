-- `text::torn` meets its contract: a text of ASCII is fine, and of any other it is known how far it is. Assumes nothing.
use mathlib.Core.Path.{sym, ap, ◌∙◌}
use mathlib.Core.Bool.{Bool}
use lib.ListN.{length}
use native.Mathlib.Omega.{arith}
use borrow.Author.Tests.{lt-ltb, le-ltb}
use Rattle.format.specs.declared.Fault.TheVariants.{Text}
use Rattle.format.specs.Result.{pick}
use Rattle.format.specs.Format.{fine, bad}
use Rattle.text.specs.Shown.{shown_at}
use Rattle.text.proofs.Runs.{text, text_low, text_done, run}
use Rattle.text.proofs.torn.Goals as goal

pub returns-then-is_ascii : goal.returns-then-is_ascii
returns-then-is_ascii c =
    let b = c.args.b.now in
    ap shown_at (sym (text_done b (length b) (omega arith)) ∙ run text text_low b (length b) (omega arith) (c.is_ascii.ensures c.if-is_ascii.true))

pub returns-then-end-b : goal.returns-then-end-b
returns-then-end-b c =
    let end = c.well_formed-end in
    sym (ap shown_at (end.ensures ∙ ap (λ (t : Bool). pick t (bad Text end.result) fine) (lt-ltb end.result (length c.args.b.now) c.if-end-b.true)))

pub returns-else-end-b : goal.returns-else-end-b
returns-else-end-b c =
    let end = c.well_formed-end in
    sym (ap shown_at (end.ensures ∙ ap (λ (t : Bool). pick t (bad Text end.result) fine) (le-ltb end.result (length c.args.b.now) c.if-end-b.false)))
