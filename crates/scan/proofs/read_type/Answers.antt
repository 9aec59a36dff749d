-- `scan::read_type` meets its contract: the byte, then its rule. Assumes nothing.
use mathlib.Core.Path.{sym, ◌∙◌, ap}
use Rattle.format.specs.declared.Fault.TheVariants.{WireType}
use Rattle.format.specs.Format.{number}
use Rattle.format.specs.Value.{is_column}
use Rattle.format.proofs.Results.{handed_on}
use Rattle.scan.specs.Shown.{shown}
use Rattle.scan.proofs.Answers.{shown_go, shown_stop}
use Rattle.scan.proofs.Steps.{ruled_go, ruled_bad, ruled_stop}
use Rattle.scan.proofs.read_type.Goals as goal

pub returns-in_err-t : goal.returns-in_err-t
returns-in_err-t c =
    let stop = shown_stop _ c.read_byte.ensures c.in_err-t.was in
    handed_on c.from_residual.ensures ∙ sym (ap shown (ruled_stop is_column WireType (number 1 0) _ _ stop))

pub returns-then-not-is_column : goal.returns-then-not-is_column
returns-then-not-is_column c =
    let go = shown_go _ c.read_byte.ensures c.in_ok-t.was in
    sym (ap shown (ruled_bad is_column WireType (number 1 0) _ _ go (sym c.if-not-is_column.ensures)))

pub returns : goal.returns
returns c =
    let go = shown_go _ c.read_byte.ensures c.in_ok-t.was in
    sym (ap shown (ruled_go is_column WireType (number 1 0) _ _ go (sym c.if-not-is_column.ensures)))
