-- `quick::eight` meets its contract: its pairs of bytes, each at its place. Assumes nothing.
use Rattle.quick.proofs.Numbers.{eight_is}
use Rattle.quick.proofs.eight.Goals as goal

pub returns : goal.returns
returns c =
    let a = c.args in
    rw (c.two-a.ensures.0, c.two-b.ensures.0, c.two-c.ensures.0, c.two-d.ensures.0) (eight_is a.s.now a.at)
