-- `quick::past_body` meets its contract: the size follows from the length. Assumes nothing.
use mathlib.Core.Path.{◌∙◌, ap}
use native.Mathlib.Omega.{arith}
use Rattle.quick.specs.Past.{size_of}
use Rattle.quick.proofs.past_body.Goals as goal

pub returns : goal.returns
returns c =
    let size = c.body_size-n.ensures ∙ ap size_of c.four.ensures.0 in
    λ there. (c.if-s-at.false, omega (arith, size, c.if-n-gt-MOST_BYTES.false), omega (arith, size))
