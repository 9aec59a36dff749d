-- `scan::skip_argument` meets its contract: null, an array, or one value. Assumes nothing.
use Rattle.format.proofs.Results.{handed_on}
use mathlib.Core.Path.{sym, ap, ◌∙◌}
use Rattle.format.specs.Message.{column_type, items}
use Rattle.scan.specs.Shown.{shown_next}
use Rattle.scan.proofs.Answers.{shown_go, shown_stop}
use Rattle.scan.proofs.Steps.{both_ends, both_stop}
use Rattle.scan.proofs.Values.{value_fields}
use Rattle.scan.proofs.Params.{type_fields, argument_null, argument_array, argument_one}
use Rattle.scan.proofs.skip_argument.Goals as goal

pub returns-then-t-eq-NULL : goal.returns-then-t-eq-NULL
returns-then-t-eq-NULL c = sym (argument_null c.args.s.now _ _ c.if-t-eq-NULL.true)

pub returns-in_err-e : goal.returns-in_err-e
returns-in_err-e c =
    let stop = shown_stop _ c.read_type.ensures c.in_err-e.was in
    handed_on c.from_residual.ensures ∙ sym (argument_array _ _ _ c.if-t-eq-ARRAY.true ∙ ap shown_next (both_stop (column_type 25) items _ _ (type_fields _ _ 25 ∙ stop)))

pub returns-then-t-eq-ARRAY : goal.returns-then-t-eq-ARRAY
returns-then-t-eq-ARRAY c =
    let go = shown_go _ c.read_type.ensures c.in_ok-e.was in
    c.skip_items.ensures ∙ sym (argument_array _ _ _ c.if-t-eq-ARRAY.true ∙ both_ends (column_type 25) items _ _ (type_fields _ _ 25 ∙ go))

pub returns : goal.returns
returns c = c.skip_value.ensures ∙ sym (ap shown_next (value_fields _ _ 27 28 _)) ∙ sym (argument_one _ _ _ c.if-t-eq-NULL.false c.if-t-eq-ARRAY.false)
