-- `message::read_row_count` meets its contract: a count of 4 bytes that is not negative is within every limit. Assumes nothing.
use Rattle.format.proofs.Results.{handed_on}
use mathlib.Core.Path.{◌∙◌, sym, ap}
use native.Mathlib.Omega.{arith}
use Rattle.scan.specs.Shown.{shown}
use Rattle.scan.proofs.Answers.{shown_go, shown_stop}
use Rattle.scan.proofs.Params.{count_stop, count_negative, count_go}
use Rattle.message.proofs.read_row_count.Goals as goal

pub returns-in_err-n : goal.returns-in_err-n
returns-in_err-n c =
    let stop = shown_stop _ c.read_number.ensures c.in_err-n.was in
    handed_on c.from_residual.ensures ∙ sym (ap shown (count_stop _ _ 4 _ stop))

pub returns-then-n-gt-UNLIMITED : goal.returns-then-n-gt-UNLIMITED
returns-then-n-gt-UNLIMITED c =
    let go = shown_go _ c.read_number.ensures c.in_ok-n.was in
    sym (ap shown (count_negative _ _ 4 _ go (omega (arith, c.if-n-gt-UNLIMITED.true))))

pub returns : goal.returns
returns c =
    let go = shown_go _ c.read_number.ensures c.in_ok-n.was in
    sym (ap shown (count_go _ _ 4 _ go (omega (arith, c.if-n-gt-UNLIMITED.false)) c.if-n-gt-UNLIMITED.false))
