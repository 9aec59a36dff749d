-- `message::skip_login_response` meets its contract: the result, and what follows a result of 0. Assumes nothing.
use Rattle.format.proofs.Results.{handed_on}
use mathlib.Core.Path.{sym, ap, ◌∙◌}
use borrow.Author.Tests.{eq-eqb, ne_eqb}
use Rattle.format.specs.Format.{number}
use Rattle.format.specs.Message.{no_server, server}
use Rattle.scan.specs.Shown.{shown_next}
use Rattle.scan.proofs.Answers.{shown_go, shown_stop}
use Rattle.scan.proofs.Steps.{both_ends, both_stop}
use Rattle.scan.proofs.Params.{number_fields}
use Rattle.message.proofs.Runs.{served, present_ends, absent_ends, login_response_ends}
use Rattle.message.proofs.skip_login_response.Goals as goal

pub returns-in_err-code : goal.returns-in_err-code
returns-in_err-code c =
    let stop = shown_stop _ c.read_byte.ensures c.in_err-code.was in
    handed_on c.from_residual.ensures ∙ sym (login_response_ends _ _ ∙ ap shown_next (both_stop (number 1 10) served _ _ (number_fields _ _ 1 10 ∙ stop)))

pub returns-then-code-eq0 : goal.returns-then-code-eq0
returns-then-code-eq0 c =
    let go = shown_go _ c.read_byte.ensures c.in_ok-code.was in
    c.skip_server.ensures
    ∙ sym (login_response_ends _ _ ∙ both_ends (number 1 10) served _ _ (number_fields _ _ 1 10 ∙ go) ∙ present_ends no_server server _ _ _ (eq-eqb _ 0 c.if-code-eq0.true))

pub returns : goal.returns
returns c =
    let go = shown_go _ c.read_byte.ensures c.in_ok-code.was in
    sym (login_response_ends _ _ ∙ both_ends (number 1 10) served _ _ (number_fields _ _ 1 10 ∙ go) ∙ absent_ends no_server server _ _ _ (ne_eqb _ 0 c.if-code-eq0.false))
