-- `message::accept_layout` meets its contract: the layout, the length, the message, and that nothing is left over. Assumes nothing.
use Rattle.format.proofs.Results.{handed_on}
use mathlib.Core.Path.{sym, ap, ◌∙◌}
use borrow.Author.Tests.{not-true, not-false}
use Rattle.scan.proofs.Answers.{next_go, next_stop}
use Rattle.format.specs.Result.{told}
use Rattle.message.specs.Verdict.{verdict_of}
use Rattle.message.proofs.Whole.{unknown, bad_length, bad_message, left_over, all_read}
use Rattle.message.proofs.accept_layout.Goals as goal

pub returns-then-not-is_layout : goal.returns-then-not-is_layout
returns-then-not-is_layout c =
    let a = c.args in
    sym (ap verdict_of (unknown a.layout a.m.now (sym c.is_layout.ensures ∙ not-true _ c.if-not-is_layout.true-raw)))

pub returns-in_err-version : goal.returns-in_err-version
returns-in_err-version c =
    let a = c.args in
    let known = sym c.is_layout.ensures ∙ not-false _ c.if-not-is_layout.false-raw in
    let stop = next_stop _ c.skip_length.ensures c.in_err-version.was in
    ap told (handed_on c.from_residual.ensures) ∙ sym (ap verdict_of (bad_length a.layout a.m.now known stop))

pub returns-in_err-next : goal.returns-in_err-next
returns-in_err-next c =
    let a = c.args in
    let known = sym c.is_layout.ensures ∙ not-false _ c.if-not-is_layout.false-raw in
    let size = next_go _ c.skip_length.ensures c.in_ok-version.was in
    let stop = next_stop _ c.skip_message.ensures c.in_err-next.was in
    ap told (handed_on c.from_residual-in_err-next.ensures) ∙ sym (ap verdict_of (bad_message a.layout a.m.now known size.1 stop))

pub returns-then-next-m : goal.returns-then-next-m
returns-then-next-m c =
    let a = c.args in
    let known = sym c.is_layout.ensures ∙ not-false _ c.if-not-is_layout.false-raw in
    let size = next_go _ c.skip_length.ensures c.in_ok-version.was in
    let go = next_go _ c.skip_message.ensures c.in_ok-next.was in
    sym (ap verdict_of (left_over a.layout a.m.now known size.1 go.1 c.if-next-m.true))

pub returns : goal.returns
returns c =
    let a = c.args in
    let known = sym c.is_layout.ensures ∙ not-false _ c.if-not-is_layout.false-raw in
    let size = next_go _ c.skip_length.ensures c.in_ok-version.was in
    let go = next_go _ c.skip_message.ensures c.in_ok-next.was in
    sym (ap verdict_of (all_read a.layout a.m.now known size.1 go.1 c.if-next-m.false))
