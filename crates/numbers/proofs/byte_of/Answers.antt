-- `numbers::byte_of` meets its contract: by whether the number is a byte. Assumes nothing.
use borrow.Author.Tests.{lt-ltb, le-ltb}
use Rattle.numbers.proofs.byte_of.Goals as goal

pub returns-then-n-lt256 : goal.returns-then-n-lt256
returns-then-n-lt256 c = rw (lt-ltb c.args.n 256 c.if-n-lt256.true)

pub returns-else-n-lt256 : goal.returns-else-n-lt256
returns-else-n-lt256 c = rw (le-ltb c.args.n 256 c.if-n-lt256.false)
