-- `scan::eight` meets its contract: its bytes, each at its place. Assumes nothing.
use native.Mathlib.Omega.{arith}
use Rattle.scan.proofs.Sixteen.{eight_at}
use Rattle.scan.proofs.eight.Goals as goal

pub returns : goal.returns
returns c = omega (arith, eight_at c.args.s.now c.args.at, c.from_be_bytes.ensures)
