-- `message::skip_length` meets its contract: each return is a test of the definition. Assumes nothing.
use Rattle.format.proofs.Results.{handed_on}
use mathlib.Core.Path.{sym, ap, ◌∙◌}
use native.Mathlib.Omega.{arith}
use Rattle.scan.specs.Shown.{shown_next}
use Rattle.scan.proofs.Answers.{shown_go, shown_stop}
use Rattle.message.proofs.Whole.{no_length, zero_length, negative_length, long_length, short_message, long_message, whole_message}
use Rattle.message.proofs.skip_length.Goals as goal

pub returns-in_err-n : goal.returns-in_err-n
returns-in_err-n c =
    let stop = shown_stop _ c.read_number.ensures c.in_err-n.was in
    handed_on c.from_residual.ensures ∙ sym (ap shown_next (no_length _ stop))

pub returns-then-n-eq0 : goal.returns-then-n-eq0
returns-then-n-eq0 c =
    let go = shown_go _ c.read_number.ensures c.in_ok-n.was in
    c.refused.ensures ∙ sym (ap shown_next (zero_length _ go c.if-n-eq0.true))

pub returns-then-n-gt-UNLIMITED : goal.returns-then-n-gt-UNLIMITED
returns-then-n-gt-UNLIMITED c =
    let go = shown_go _ c.read_number.ensures c.in_ok-n.was in
    c.refused-then-n-gt-UNLIMITED.ensures ∙ sym (ap shown_next (negative_length _ go c.if-n-eq0.false (omega (arith, c.if-n-gt-UNLIMITED.true))))

pub returns-then-n-gt-MOST_MESSAGE : goal.returns-then-n-gt-MOST_MESSAGE
returns-then-n-gt-MOST_MESSAGE c =
    let go = shown_go _ c.read_number.ensures c.in_ok-n.was in
    c.refused-then-n-gt-MOST_MESSAGE.ensures ∙ sym (ap shown_next (long_length _ go c.if-n-eq0.false (omega (arith, c.if-n-gt-UNLIMITED.false)) c.if-n-gt-MOST_MESSAGE.true))

pub returns-then-m-end : goal.returns-then-m-end
returns-then-m-end c =
    let go = shown_go _ c.read_number.ensures c.in_ok-n.was in
    c.refused-then-m-end.ensures ∙ sym (ap shown_next (short_message _ go c.if-n-eq0.false (omega (arith, c.if-n-gt-UNLIMITED.false)) c.if-n-gt-MOST_MESSAGE.false c.if-m-end.true))

pub returns-then-end-m : goal.returns-then-end-m
returns-then-end-m c =
    let go = shown_go _ c.read_number.ensures c.in_ok-n.was in
    c.refused-then-end-m.ensures ∙ sym (ap shown_next (long_message _ go c.if-n-eq0.false (omega (arith, c.if-n-gt-UNLIMITED.false)) c.if-n-gt-MOST_MESSAGE.false c.if-m-end.false c.if-end-m.true))

pub returns : goal.returns
returns c =
    let go = shown_go _ c.read_number.ensures c.in_ok-n.was in
    sym (ap shown_next (whole_message _ go c.if-n-eq0.false (omega (arith, c.if-n-gt-UNLIMITED.false)) c.if-n-gt-MOST_MESSAGE.false c.if-m-end.false c.if-end-m.false))
