-- `show::float_cell` meets its contract: what is at most the infinity's pattern is a number.
use Rattle.show.proofs.Floats.{no_nan, is_nan, numeral}
use Rattle.show.proofs.float_cell.Goals as goal

pub float_from_bits-result : goal.float_from_bits-result
float_from_bits-result c = numeral _ (no_nan _ c.if-bits-le9218868437227405312.true)

pub returns-then-bits-le9218868437227405312 : goal.returns-then-bits-le9218868437227405312
returns-then-bits-le9218868437227405312 c = simp (no_nan _ c.if-bits-le9218868437227405312.true)

pub returns-else-bits-le9218868437227405312 : goal.returns-else-bits-le9218868437227405312
returns-else-bits-le9218868437227405312 c = simp (is_nan _ c.if-bits-le9218868437227405312.false)
