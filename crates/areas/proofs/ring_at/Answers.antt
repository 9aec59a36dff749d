-- `areas::ring_at` meets its contract. Assumes nothing.
use Rattle.scan.proofs.Params.{byte_is}
use Rattle.areas.proofs.ring_at.Goals as goal

pub returns : goal.returns
returns c =
    let a = c.args in
    rw (byte_is a.b.now a.at, c.four.ensures.0)
