-- `query::spot_at` meets its contract: each step comes where the cell's next part stands.
use Rattle.query.proofs.Walks.{spot_is}
use Rattle.query.proofs.spot_at.Goals as goal

pub returns : goal.returns
returns c =
    λ at b d t r k n.
    let a = c.args in
    spot_is _ d a.k a.c k n a.types a.rows t r c.after-type_at.ensures c.byte_at-wire_type.ensures c.over-row.ensures
    c.after-cells.ensures c.pass_front-at.ensures
