-- `message::skip_head` meets its contract: field after field, the strings by their flags. Assumes nothing.
use Rattle.format.proofs.Results.{handed_on}
use mathlib.Core.Path.{sym, ap, ◌∙◌}
use mathlib.Core.Bool.{true}
use Rattle.format.specs.Format.{block}
use Rattle.format.specs.Text.{utf8}
use Rattle.scan.specs.Shown.{shown_next}
use Rattle.scan.proofs.Answers.{shown_go, shown_stop}
use Rattle.format.specs.Message.{flag_byte, stated, app_stated, tripped, after_flags}
use Rattle.scan.proofs.Steps.{goes_on, halts, both_ends, both_stop, block_ends}
use Rattle.message.proofs.Heads.{head_1, head_2, head_ends, flag_fields, noted_shows, trip_shows}
use Rattle.message.proofs.skip_head.Goals as goal

pub returns-in_err-flagged : goal.returns-in_err-flagged
returns-in_err-flagged c =
    let timed = c.args.timed in
    handed_on c.from_residual.ensures ∙ sym (
    head_ends timed _ _
    ∙ halts (block 8 22) (head_1 timed) _ _ (c.skip_fixed.ensures ∙ sym (block_ends 8 22 _ _)) c.in_err-flagged.was)

pub returns-in_err-flags : goal.returns-in_err-flags
returns-in_err-flags c =
    let timed = c.args.timed in
    let stop = shown_stop _ c.read_flags.ensures c.in_err-flags.was in
    handed_on c.from_residual-in_err-flags.ensures ∙ sym (
    head_ends timed _ _
    ∙ goes_on (block 8 22) (head_1 timed) _ _ (c.skip_fixed.ensures ∙ sym (block_ends 8 22 _ _)) c.in_ok-flagged.was
    ∙ ap shown_next (both_stop (flag_byte 30) (after_flags timed) _ _ (flag_fields timed _ _ ∙ stop)))

pub returns-in_err-app_status : goal.returns-in_err-app_status
returns-in_err-app_status c =
    let timed = c.args.timed in
    let flags = c.in_ok-flags.flags in
    let go = shown_go _ c.read_flags.ensures c.in_ok-flags.was in
    handed_on c.from_residual-in_err-app_status.ensures ∙ sym (
    head_ends timed _ _
    ∙ goes_on (block 8 22) (head_1 timed) _ _ (c.skip_fixed.ensures ∙ sym (block_ends 8 22 _ _)) c.in_ok-flagged.was
    ∙ both_ends (flag_byte 30) (after_flags timed) _ _ (flag_fields timed _ _ ∙ go)
    ∙ halts (stated flags) (head_2 timed flags) _ _ (noted_shows 32 33 true utf8 _ _ 1 31 c.has_flag.ensures c.skip_noted.ensures) c.in_err-app_status.was)

pub returns-in_err-round_trip : goal.returns-in_err-round_trip
returns-in_err-round_trip c =
    let timed = c.args.timed in
    let flags = c.in_ok-flags.flags in
    let go = shown_go _ c.read_flags.ensures c.in_ok-flags.was in
    handed_on c.from_residual-in_err-round_trip.ensures ∙ sym (
    head_ends timed _ _
    ∙ goes_on (block 8 22) (head_1 timed) _ _ (c.skip_fixed.ensures ∙ sym (block_ends 8 22 _ _)) c.in_ok-flagged.was
    ∙ both_ends (flag_byte 30) (after_flags timed) _ _ (flag_fields timed _ _ ∙ go)
    ∙ goes_on (stated flags) (head_2 timed flags) _ _ (noted_shows 32 33 true utf8 _ _ 1 31 c.has_flag.ensures c.skip_noted.ensures) c.in_ok-app_status.was
    ∙ halts (app_stated flags) (tripped timed flags) _ _ (noted_shows 35 36 true utf8 _ _ 1 34 c.has_flag-2.ensures c.skip_noted-2.ensures) c.in_err-round_trip.was)

pub returns : goal.returns
returns c =
    let timed = c.args.timed in
    let flags = c.in_ok-flags.flags in
    let go = shown_go _ c.read_flags.ensures c.in_ok-flags.was in
    trip_shows timed _ _ c.has_flag-3.ensures c.skip_trip.ensures
    ∙ sym (
    head_ends timed _ _
    ∙ goes_on (block 8 22) (head_1 timed) _ _ (c.skip_fixed.ensures ∙ sym (block_ends 8 22 _ _)) c.in_ok-flagged.was
    ∙ both_ends (flag_byte 30) (after_flags timed) _ _ (flag_fields timed _ _ ∙ go)
    ∙ goes_on (stated flags) (head_2 timed flags) _ _ (noted_shows 32 33 true utf8 _ _ 1 31 c.has_flag.ensures c.skip_noted.ensures) c.in_ok-app_status.was
    ∙ goes_on (app_stated flags) (tripped timed flags) _ _ (noted_shows 35 36 true utf8 _ _ 1 34 c.has_flag-2.ensures c.skip_noted-2.ensures) c.in_ok-round_trip.was)
