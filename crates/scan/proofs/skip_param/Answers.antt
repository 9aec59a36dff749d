-- `scan::skip_param` meets its contract: the type, its rule, what stands after it. Assumes nothing.
use Rattle.format.proofs.Results.{handed_on}
use mathlib.Core.Path.{sym, ap, ◌∙◌}
use borrow.Author.Tests.{not-true, not-false}
use Rattle.format.specs.declared.Fault.TheVariants.{WireType}
use Rattle.format.specs.Format.{number, ruled}
use Rattle.format.specs.Message.{argument}
use Rattle.scan.specs.Shown.{shown_next}
use Rattle.scan.proofs.Answers.{shown_go, shown_stop}
use Rattle.scan.proofs.Steps.{ruled_go, ruled_bad, ruled_stop, both_ends, both_stop}
use Rattle.scan.proofs.Params.{number_fields, is_param, param_both}
use Rattle.scan.proofs.skip_param.Goals as goal

pub returns-in_err-t : goal.returns-in_err-t
returns-in_err-t c =
    let stop = shown_stop _ c.read_byte.ensures c.in_err-t.was in
    handed_on c.from_residual.ensures ∙ sym (param_both _ _ ∙ ap shown_next (both_stop (ruled is_param WireType (number 1 24)) argument _ _ (ruled_stop is_param WireType (number 1 24) _ _ (number_fields _ _ 1 24 ∙ stop))))

pub returns-then-not-is_parameter : goal.returns-then-not-is_parameter
returns-then-not-is_parameter c =
    let go = shown_go _ c.read_byte.ensures c.in_ok-t.was in
    let bad = ruled_bad is_param WireType (number 1 24) _ _ (number_fields _ _ 1 24 ∙ go) (sym c.is_parameter.ensures ∙ not-true _ c.if-not-is_parameter.true-raw) in
    sym (param_both _ _ ∙ ap shown_next (both_stop (ruled is_param WireType (number 1 24)) argument _ _ bad))

pub returns : goal.returns
returns c =
    let go = shown_go _ c.read_byte.ensures c.in_ok-t.was in
    let fine = ruled_go is_param WireType (number 1 24) _ _ (number_fields _ _ 1 24 ∙ go) (sym c.is_parameter.ensures ∙ not-false _ c.if-not-is_parameter.false-raw) in
    c.skip_argument.ensures ∙ sym (param_both _ _ ∙ both_ends (ruled is_param WireType (number 1 24)) argument _ _ fine)
