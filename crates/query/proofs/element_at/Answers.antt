-- `query::element_at` meets its contract: the walk over the elements before it comes to element e.
use mathlib.Core.Path.{◌∙◌, ap}
use Rattle.format.specs.Result.{no}
use Rattle.format.specs.declared.Refusal.{Refusal}
use Rattle.query.proofs.Calls.{no_array, element_past, element_is}
use Rattle.query.proofs.element_at.Goals as goal

pub returns-then-byte_at : goal.returns-then-byte_at
returns-then-byte_at c = λ q d. ap (λ (r : Refusal). no r.fault r.place) c.wrong_type.ensures ∙ no_array _ d c.byte_at.ensures c.if-byte_at.true _

pub returns-then-count_at-e : goal.returns-then-count_at-e
returns-then-count_at-e c =
    λ q d.
    let a = c.args in
    element_past _ d c.byte_at.ensures c.after-type_at.ensures c.if-byte_at.false c.byte_at-t.ensures c.after-counted.ensures c.count_width-width.ensures c.count_at.ensures a.e c.if-count_at-e.true

pub returns : goal.returns
returns c =
    λ q d.
    let a = c.args in
    element_is _ d c.byte_at.ensures c.after-type_at.ensures c.if-byte_at.false c.byte_at-t.ensures c.after-counted.ensures c.count_width-width.ensures c.count_at.ensures
    a.e c.after-first.result c.pass_values.result c.if-count_at-e.false c.after-first.ensures c.pass_values.ensures c.value_at-cell.ensures
