-- `query::one_at` meets its contract: a value by its type, and no other parameter.
use mathlib.Core.Path.{◌∙◌, ap}
use Rattle.format.specs.Result.{no}
use Rattle.format.specs.declared.Refusal.{Refusal}
use Rattle.query.proofs.Calls.{null_no_value, array_no_value, value_is}
use Rattle.query.proofs.one_at.Goals as goal

pub returns-then-t-eq-NULL : goal.returns-then-t-eq-NULL
returns-then-t-eq-NULL c = λ q d. ap (λ (r : Refusal). no r.fault r.place) c.wrong_type.ensures ∙ null_no_value _ d c.byte_at-t.ensures c.if-t-eq-NULL.true

pub returns-then-t : goal.returns-then-t
returns-then-t c = λ q d. ap (λ (r : Refusal). no r.fault r.place) c.wrong_type-then-t.ensures ∙ array_no_value _ d c.byte_at-t.ensures c.if-t.true

pub returns : goal.returns
returns c = λ q d. value_is _ d c.byte_at-t.ensures c.if-t-eq-NULL.false c.if-t.false c.after.ensures c.value_at-cell.ensures
