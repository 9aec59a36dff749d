-- `whole::put_fixed` meets its contract: one half behind the other. Assumes nothing.
use native.Mathlib.Omega.{arith}
use Rattle.whole.proofs.Lays.{halves_put}
use Rattle.whole.proofs.put_fixed.Goals as goal

pub returns : goal.returns
returns c =
    let a = c.args in
    halves_put a.out.now a.at a.t a.upper a.lower (omega arith) c.requires c.put_upper-middle.ensures c.put_lower.ensures
