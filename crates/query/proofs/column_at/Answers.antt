-- `query::column_at` meets its contract: each step comes where the column's next part stands.
use Rattle.query.proofs.Walks.{column_is}
use Rattle.query.proofs.column_at.Goals as goal

pub returns : goal.returns
returns c =
    λ at b d t n k.
    let a = c.args in
    column_is _ d a.c k a.types a.names t n c.after-type_at.ensures c.byte_at-wire_type.ensures c.over-named.ensures
    c.count_at-name_length.ensures c.after-name.ensures
