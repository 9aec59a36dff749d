-- `scan::skip_items` meets its contract: a byte array's body, or a count and the values. Assumes nothing.
use Rattle.format.proofs.Results.{handed_on}
use mathlib.Core.Path.{sym, ◌∙◌}
use Rattle.format.specs.Message.{second, most_items}
use Rattle.format.specs.Value.{value}
use Rattle.scan.proofs.Answers.{shown_go, shown_stop}
use Rattle.scan.proofs.Params.{items_bytes, items_list, list_go, list_stop}
use Rattle.scan.proofs.skip_items.Goals as goal

pub returns-then-t-eq-TINYINT : goal.returns-then-t-eq-TINYINT
returns-then-t-eq-TINYINT c = c.skip_body.ensures ∙ sym (items_bytes _ _ _ c.if-t-eq-TINYINT.true)

pub returns-in_err-n : goal.returns-in_err-n
returns-in_err-n c =
    let a = c.args in
    let stop = shown_stop _ c.read_count.ensures c.in_err-n.was in
    handed_on c.from_residual.ensures ∙ sym (items_list _ _ _ c.if-t-eq-TINYINT.false ∙ list_stop _ _ 2 most_items 26 second (value 27 28 a.t) stop)

pub returns : goal.returns
returns c =
    let a = c.args in
    let go = shown_go _ c.read_count.ensures c.in_ok-n.was in
    c.skip_values.ensures ∙ sym (items_list _ _ _ c.if-t-eq-TINYINT.false ∙ list_go _ _ 2 most_items 26 second (value 27 28 a.t) go)
