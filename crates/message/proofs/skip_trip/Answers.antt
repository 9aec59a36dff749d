-- `message::skip_trip` meets its contract: the round trip if there is one, and the exception if there is one. Assumes nothing.
use Rattle.format.proofs.Results.{handed_on}
use mathlib.Core.Path.{sym, ◌∙◌}
use mathlib.Core.Option.{none}
use borrow.Author.Tests.{not-true, not-false}
use Rattle.format.specs.Format.{number, present}
use Rattle.format.specs.Message.{binary}
use Rattle.scan.proofs.Steps.{goes_on, halts}
use Rattle.message.proofs.Heads.{timed_ends, untimed_ends}
use Rattle.message.proofs.skip_trip.Goals as goal

pub returns-then-not-timed : goal.returns-then-not-timed
returns-then-not-timed c = c.skip_exception.ensures ∙ sym (untimed_ends _ _ _ _ (not-true _ c.if-not-timed.true-raw))

pub returns-in_err-next : goal.returns-in_err-next
returns-in_err-next c =
    let a = c.args in
    handed_on c.from_residual.ensures ∙ sym (timed_ends _ _ _ _ (not-false _ c.if-not-timed.false-raw)
    ∙ halts (number 4 0) (present a.there none (binary 0 0)) _ _ c.skip_fixed.ensures c.in_err-next.was)

pub returns : goal.returns
returns c =
    let a = c.args in
    c.skip_exception-2.ensures ∙ sym (timed_ends _ _ _ _ (not-false _ c.if-not-timed.false-raw)
    ∙ goes_on (number 4 0) (present a.there none (binary 0 0)) _ _ c.skip_fixed.ensures c.in_ok-next.was)
