-- `quick::past_geography` meets its contract: a length that isn't 0, and its body. Assumes nothing.
use Prim.Native.Nat.{◌<◌}
use native.Mathlib.Omega.{arith}
use Rattle.format.specs.Number.{num_at}
use Rattle.quick.proofs.Bodies.{geography_past}
use Rattle.quick.proofs.past_geography.Goals as goal

pub returns-then-s-at : goal.returns-then-s-at
returns-then-s-at c = λ there. absurd (omega arith)

pub returns-then-four-eq0 : goal.returns-then-four-eq0
returns-then-four-eq0 c = λ there. absurd (omega arith)

pub returns : goal.returns
returns c =
    let a = c.args in
    let filled : 0 < num_at 4 a.s.now a.at = omega (arith, c.four.ensures.0, c.if-four-eq0.false) in
    geography_past a.s.now a.at c.past_body.result filled c.past_body.ensures
