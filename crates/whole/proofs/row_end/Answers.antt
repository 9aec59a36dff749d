-- `whole::row_end` meets its contract: the least of three is at most each. Assumes nothing.
use native.Mathlib.Omega.{arith}
use Rattle.whole.proofs.row_end.Goals as goal

pub returns : goal.returns
returns c =
    let inner = c.least.ensures in
    let outer = c.least-2.ensures in
    record { behind = outer.2 c.args.first (omega arith) (inner.2 c.args.first c.requires.0 c.requires.1); row = outer.0; message = omega (arith, outer.1, inner.0); buffer = omega (arith, outer.1, inner.1) }
