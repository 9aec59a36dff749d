-- `message::skip_invocation` meets its contract: field after field. Assumes nothing.
use Rattle.format.proofs.Results.{handed_on}
use mathlib.Core.Path.{sym, ap, ◌∙◌}
use mathlib.Core.Bool.{false}
use Rattle.format.specs.Format.{block}
use Rattle.format.specs.Text.{utf8}
use Rattle.format.specs.Message.{text, most_items, first, param}
use Rattle.scan.specs.Shown.{shown_next}
use Rattle.scan.proofs.Answers.{shown_go, shown_stop}
use Rattle.scan.proofs.Steps.{goes_on, halts, block_ends}
use Rattle.scan.proofs.Params.{string_fields, list_go, list_stop}
use Rattle.message.proofs.Runs.{invocation_1, invocation_2, invocation_ends}
use Rattle.message.proofs.skip_invocation.Goals as goal

pub returns-in_err-client : goal.returns-in_err-client
returns-in_err-client c =
    handed_on c.from_residual.ensures ∙ sym (
    invocation_ends _ _
    ∙ halts (text 20 21) invocation_1 _ _ (c.skip_text.ensures ∙ sym (ap shown_next (string_fields _ _ false utf8 20 21))) c.in_err-client.was)

pub returns-in_err-counted : goal.returns-in_err-counted
returns-in_err-counted c =
    handed_on c.from_residual-in_err-counted.ensures ∙ sym (
    invocation_ends _ _
    ∙ goes_on (text 20 21) invocation_1 _ _ (c.skip_text.ensures ∙ sym (ap shown_next (string_fields _ _ false utf8 20 21))) c.in_ok-client.was
    ∙ halts (block 8 22) invocation_2 _ _ (c.skip_fixed.ensures ∙ sym (block_ends 8 22 _ _)) c.in_err-counted.was)

pub returns-in_err-n : goal.returns-in_err-n
returns-in_err-n c =
    handed_on c.from_residual-in_err-n.ensures ∙ sym (
    invocation_ends _ _
    ∙ goes_on (text 20 21) invocation_1 _ _ (c.skip_text.ensures ∙ sym (ap shown_next (string_fields _ _ false utf8 20 21))) c.in_ok-client.was
    ∙ goes_on (block 8 22) invocation_2 _ _ (c.skip_fixed.ensures ∙ sym (block_ends 8 22 _ _)) c.in_ok-counted.was
    ∙ list_stop _ _ 2 most_items 23 first param (shown_stop _ c.read_count.ensures c.in_err-n.was))

pub returns : goal.returns
returns c =
    c.skip_params.ensures
    ∙ sym (
    invocation_ends _ _
    ∙ goes_on (text 20 21) invocation_1 _ _ (c.skip_text.ensures ∙ sym (ap shown_next (string_fields _ _ false utf8 20 21))) c.in_ok-client.was
    ∙ goes_on (block 8 22) invocation_2 _ _ (c.skip_fixed.ensures ∙ sym (block_ends 8 22 _ _)) c.in_ok-counted.was
    ∙ list_go _ _ 2 most_items 23 first param (shown_go _ c.read_count.ensures c.in_ok-n.was))
