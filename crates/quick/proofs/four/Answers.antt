-- `quick::four` meets its contract: its bytes, each at its place. Assumes nothing.
use native.Mathlib.Omega.{arith}
use Rattle.quick.proofs.Numbers.{four_is}
use Rattle.quick.proofs.four.Goals as goal

pub returns : goal.returns
returns c = (omega (arith, four_is c.args.s.now c.args.at, c.from_be_bytes.ensures), c.from_be_bytes.type_inv)
