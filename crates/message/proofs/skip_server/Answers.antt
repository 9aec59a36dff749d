-- `message::skip_server` meets its contract: field after field. Assumes nothing.
use Rattle.format.proofs.Results.{handed_on}
use mathlib.Core.Path.{sym, ap, ◌∙◌}
use mathlib.Core.Bool.{false}
use Rattle.format.specs.Format.{number}
use Rattle.format.specs.Text.{utf8}
use Rattle.scan.specs.Shown.{shown_next}
use Rattle.scan.proofs.Steps.{goes_on, halts}
use Rattle.scan.proofs.Params.{number_fields, string_fields}
use Rattle.message.proofs.Runs.{server_1, server_2, server_3, server_4, server_ends}
use Rattle.message.proofs.skip_server.Goals as goal

pub returns-in_err-connection : goal.returns-in_err-connection
returns-in_err-connection c =
    handed_on c.from_residual.ensures ∙ sym (
    server_ends _ _
    ∙ halts (number 4 11) server_1 _ _ (c.skip_fixed.ensures ∙ sym (ap shown_next (number_fields _ _ 4 11))) c.in_err-connection.was)

pub returns-in_err-start : goal.returns-in_err-start
returns-in_err-start c =
    handed_on c.from_residual-in_err-start.ensures ∙ sym (
    server_ends _ _
    ∙ goes_on (number 4 11) server_1 _ _ (c.skip_fixed.ensures ∙ sym (ap shown_next (number_fields _ _ 4 11))) c.in_ok-connection.was
    ∙ halts (number 8 12) server_2 _ _ (c.skip_fixed-2.ensures ∙ sym (ap shown_next (number_fields _ _ 8 12))) c.in_err-start.was)

pub returns-in_err-leader : goal.returns-in_err-leader
returns-in_err-leader c =
    handed_on c.from_residual-in_err-leader.ensures ∙ sym (
    server_ends _ _
    ∙ goes_on (number 4 11) server_1 _ _ (c.skip_fixed.ensures ∙ sym (ap shown_next (number_fields _ _ 4 11))) c.in_ok-connection.was
    ∙ goes_on (number 8 12) server_2 _ _ (c.skip_fixed-2.ensures ∙ sym (ap shown_next (number_fields _ _ 8 12))) c.in_ok-start.was
    ∙ halts (number 8 13) server_3 _ _ (c.skip_fixed-3.ensures ∙ sym (ap shown_next (number_fields _ _ 8 13))) c.in_err-leader.was)

pub returns-in_err-build : goal.returns-in_err-build
returns-in_err-build c =
    handed_on c.from_residual-in_err-build.ensures ∙ sym (
    server_ends _ _
    ∙ goes_on (number 4 11) server_1 _ _ (c.skip_fixed.ensures ∙ sym (ap shown_next (number_fields _ _ 4 11))) c.in_ok-connection.was
    ∙ goes_on (number 8 12) server_2 _ _ (c.skip_fixed-2.ensures ∙ sym (ap shown_next (number_fields _ _ 8 12))) c.in_ok-start.was
    ∙ goes_on (number 8 13) server_3 _ _ (c.skip_fixed-3.ensures ∙ sym (ap shown_next (number_fields _ _ 8 13))) c.in_ok-leader.was
    ∙ halts (number 4 14) server_4 _ _ (c.skip_fixed-4.ensures ∙ sym (ap shown_next (number_fields _ _ 4 14))) c.in_err-build.was)

pub returns : goal.returns
returns c =
    c.skip_text.ensures ∙ sym (ap shown_next (string_fields _ _ false utf8 15 16))
    ∙ sym (
    server_ends _ _
    ∙ goes_on (number 4 11) server_1 _ _ (c.skip_fixed.ensures ∙ sym (ap shown_next (number_fields _ _ 4 11))) c.in_ok-connection.was
    ∙ goes_on (number 8 12) server_2 _ _ (c.skip_fixed-2.ensures ∙ sym (ap shown_next (number_fields _ _ 8 12))) c.in_ok-start.was
    ∙ goes_on (number 8 13) server_3 _ _ (c.skip_fixed-3.ensures ∙ sym (ap shown_next (number_fields _ _ 8 13))) c.in_ok-leader.was
    ∙ goes_on (number 4 14) server_4 _ _ (c.skip_fixed-4.ensures ∙ sym (ap shown_next (number_fields _ _ 4 14))) c.in_ok-build.was)
