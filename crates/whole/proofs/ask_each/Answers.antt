-- `whole::ask_each` meets its contract: a row that can't be opened is refused so; else its cells are asked. Assumes nothing.
use mathlib.Core.Path.{sym, ap, ◌∙◌}
use Rattle.format.proofs.Results.{handed_on}
use Rattle.write.specs.Shown.{seen, shown_answer}
use Rattle.scan.proofs.Answers.{shown_go, shown_stop}
use Rattle.whole.proofs.Answers.{row_refused, row_opened}
use Rattle.whole.proofs.ask_each.Goals as goal

pub returns-in_err-first : goal.returns-in_err-first
returns-in_err-first c =
    let a = c.args in
    let s = seen a.st a.types.now in
    handed_on c.from_residual.ensures ∙ sym (ap shown_answer (row_refused a.bytes.now a.cells.now s a.size _ _ (shown_stop _ c.ask_open.ensures c.in_err-first.was)))

pub returns : goal.returns
returns c =
    let a = c.args in
    let s = seen a.st a.types.now in
    c.ask_cells.ensures ∙ sym (ap shown_answer (row_opened a.bytes.now a.cells.now s a.size _ (shown_go _ c.ask_open.ensures c.in_ok-first.was)))
