-- `message::skip_login` meets its contract: field after field. Assumes nothing.
use Rattle.format.proofs.Results.{handed_on}
use mathlib.Core.Path.{sym, ap, ◌∙◌}
use mathlib.Core.Bool.{false}
use Rattle.format.specs.Text.{utf8}
use Rattle.format.specs.Message.{text}
use Rattle.scan.specs.Shown.{shown_next}
use Rattle.scan.proofs.Steps.{goes_on, halts, block_ends}
use Rattle.scan.proofs.Params.{string_fields}
use Rattle.message.specs.Login.{login_1, login_2}
use Rattle.message.proofs.skip_login.Goals as goal

pub returns-in_err-second : goal.returns-in_err-second
returns-in_err-second c =
    let size = c.args.size in
    handed_on c.from_residual.ensures
    ∙ sym (halts (text 4 5) (login_1 size) _ _ (c.skip_text.ensures ∙ sym (ap shown_next (string_fields _ _ false utf8 4 5))) c.in_err-second.was)

pub returns-in_err-hash : goal.returns-in_err-hash
returns-in_err-hash c =
    let size = c.args.size in
    handed_on c.from_residual-in_err-hash.ensures ∙ sym (
    goes_on (text 4 5) (login_1 size) _ _ (c.skip_text.ensures ∙ sym (ap shown_next (string_fields _ _ false utf8 4 5))) c.in_ok-second.was
    ∙ halts (text 6 7) (login_2 size) _ _ (c.skip_text-2.ensures ∙ sym (ap shown_next (string_fields _ _ false utf8 6 7))) c.in_err-hash.was)

pub returns : goal.returns
returns c =
    let size = c.args.size in
    c.skip_fixed.ensures ∙ sym (block_ends size 8 _ _)
    ∙ sym (
    goes_on (text 4 5) (login_1 size) _ _ (c.skip_text.ensures ∙ sym (ap shown_next (string_fields _ _ false utf8 4 5))) c.in_ok-second.was
    ∙ goes_on (text 6 7) (login_2 size) _ _ (c.skip_text-2.ensures ∙ sym (ap shown_next (string_fields _ _ false utf8 6 7))) c.in_ok-hash.was)
