-- `text::joined` meets its contract: what two numbers share is no more than either. Assumes nothing.
use native.Mathlib.Omega.{arith}
use lib.Bits.{or_add_and, and_le_l, and_le_r}
use Rattle.text.proofs.joined.Goals as goal

pub returns : goal.returns
returns c =
    let a = c.args in
    (omega (arith, or_add_and a.a a.b, and_le_r a.a a.b), omega (arith, or_add_and a.a a.b, and_le_l a.a a.b))
