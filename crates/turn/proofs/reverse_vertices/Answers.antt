-- `turn::reverse_vertices` meets its contract: all bytes reversed, and then those of each vertex. Assumes nothing.
use mathlib.Core.Path.{refl}
use Rattle.std.proofs.Common.{◌+◌, ◌*◌, arith}
use Rattle.turn.proofs.Reversals.{lent_reversed, to_mend}
use Rattle.turn.proofs.reverse_vertices.Goals as goal

pub returns : goal.returns
returns c = λ front blocks back stands place many fine.
    let a = c.args in
    let todo = to_mend a.b.now front blocks back a.from a.n _ stands place many fine refl in
    let here = lent_reversed a.b.now a.from (a.from + 24 * a.n) (omega arith) c.reverse.ensures.after in
    c.mend_vertices.ensures _ (rw (← here) at todo)
