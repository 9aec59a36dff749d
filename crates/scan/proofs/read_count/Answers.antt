-- `scan::read_count` meets its contract: the number, its sign, its limit. Assumes nothing.
use Rattle.format.proofs.Results.{handed_on}
use mathlib.Core.Path.{◌∙◌, sym, ap}
use Rattle.scan.specs.Shown.{shown}
use Rattle.scan.proofs.Answers.{shown_go, shown_stop}
use Rattle.scan.proofs.Params.{count_stop, count_negative, count_limit, count_go}
use Rattle.scan.proofs.read_count.Goals as goal

pub returns-in_err-n : goal.returns-in_err-n
returns-in_err-n c =
    let stop = shown_stop _ c.read_number.ensures c.in_err-n.was in
    handed_on c.from_residual.ensures ∙ sym (ap shown (count_stop _ _ 2 _ stop))

pub returns-then-n-ge32768 : goal.returns-then-n-ge32768
returns-then-n-ge32768 c =
    let go = shown_go _ c.read_number.ensures c.in_ok-n.was in
    sym (ap shown (count_negative _ _ 2 _ go c.if-n-ge32768.true))

pub returns-then-most-n : goal.returns-then-most-n
returns-then-most-n c =
    let go = shown_go _ c.read_number.ensures c.in_ok-n.was in
    sym (ap shown (count_limit _ _ 2 _ go c.if-n-ge32768.false c.if-most-n.true))

pub returns : goal.returns
returns c =
    let go = shown_go _ c.read_number.ensures c.in_ok-n.was in
    sym (ap shown (count_go _ _ 2 _ go c.if-n-ge32768.false c.if-most-n.false))
