-- `message::skip_response` meets its contract: its head, and then its tables. Assumes nothing.
use Rattle.format.proofs.Results.{handed_on}
use mathlib.Core.Path.{sym, ◌∙◌}
use Rattle.format.specs.Message.{head, most_items, first, table}
use Rattle.scan.proofs.Answers.{shown_go, shown_stop}
use Rattle.scan.proofs.Steps.{goes_on, halts}
use Rattle.scan.proofs.Params.{list_go, list_stop}
use Rattle.message.proofs.Heads.{tables, response_ends}
use Rattle.message.proofs.skip_response.Goals as goal

pub returns-in_err-counted : goal.returns-in_err-counted
returns-in_err-counted c =
    let timed = c.args.timed in
    handed_on c.from_residual.ensures ∙ sym (response_ends timed _ _ ∙ halts (head timed) tables _ _ c.skip_head.ensures c.in_err-counted.was)

pub returns-in_err-n : goal.returns-in_err-n
returns-in_err-n c =
    let timed = c.args.timed in
    let go = goes_on (head timed) tables _ _ c.skip_head.ensures c.in_ok-counted.was in
    let stop = shown_stop _ c.read_count.ensures c.in_err-n.was in
    handed_on c.from_residual-in_err-n.ensures ∙ sym (response_ends timed _ _ ∙ go ∙ list_stop _ _ 2 most_items 40 first table stop)

pub returns : goal.returns
returns c =
    let timed = c.args.timed in
    let go = goes_on (head timed) tables _ _ c.skip_head.ensures c.in_ok-counted.was in
    let count = shown_go _ c.read_count.ensures c.in_ok-n.was in
    c.skip_tables.ensures ∙ sym (response_ends timed _ _ ∙ go ∙ list_go _ _ 2 most_items 40 first table count)
