-- `query::layout_at` meets its contract: each step comes where the table's next part stands.
use Rattle.query.proofs.Walks.{layout_is}
use Rattle.query.proofs.layout_at.Goals as goal

pub returns : goal.returns
returns c =
    λ b d.
    layout_is _ d c.over-end.ensures
    c.after-inner.ensures
    c.after-described.ensures
    c.byte_at-status.ensures
    c.after-counted.ensures
    c.count_at-columns.ensures
    c.after-types.ensures
    c.after-names.ensures
    c.over-row_count.ensures
    c.count_at-rows.ensures
    c.after-first_row.ensures
