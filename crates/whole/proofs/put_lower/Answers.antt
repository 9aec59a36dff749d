-- `whole::put_lower` meets its contract: type by type. Assumes nothing.
use Rattle.whole.specs.Laid.{lower_of}
use Rattle.whole.proofs.Lays.{none_put}
use Rattle.whole.proofs.Halves.{no_lower}
use Rattle.whole.proofs.put_lower.Goals as goal

pub returns-in_default : goal.returns-in_default
returns-in_default c =
    let a = c.args in
    let n = c.in_default.in_default-own.rest in
    none_put a.out.now a.at a.lower (lower_of a.t) (no_lower a.t n.0.0.0.1 n.0.0.1 n.0.1 n.1)
