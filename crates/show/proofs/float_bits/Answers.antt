-- `show::float_bits` meets its contract: a float that equals itself is no NaN, and any other has the quiet pattern. Assumes nothing.
use mathlib.Core.Path.{sym}
use Rattle.show.proofs.FloatBits.{equal_itself, nan_bits}
use Rattle.show.proofs.float_bits.Goals as goal

pub float_to_bits-result : goal.float_to_bits-result
float_to_bits-result c = equal_itself c.args.x c.if-x.true

pub returns-else-x : goal.returns-else-x
returns-else-x c = sym (nan_bits c.args.x c.if-x.false)
