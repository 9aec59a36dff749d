-- `query::argument_at` meets its contract: null, a value or an array, by the type.
use Rattle.query.proofs.Calls.{null_is, one_is, array_is}
use Rattle.query.proofs.argument_at.Goals as goal

pub returns-then-t-eq-NULL : goal.returns-then-t-eq-NULL
returns-then-t-eq-NULL c = λ q d. null_is _ d c.byte_at-t.ensures c.after-inner.ensures c.if-t-eq-NULL.true

pub returns-then-t : goal.returns-then-t
returns-then-t c = λ q d. one_is _ d c.byte_at-t.ensures c.after-inner.ensures c.if-t-eq-NULL.false c.if-t.true c.value_at.ensures

pub returns : goal.returns
returns c =
    λ q d.
    array_is _ d c.byte_at-t.ensures c.after-inner.ensures c.if-t.false c.byte_at-e.ensures c.after-counted.ensures c.count_width.ensures c.count_at.ensures
