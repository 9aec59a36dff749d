-- `areas::says_holes` meets its contract: one ring wants a 0, more want a 1. Assumes nothing.
use Rattle.std.proofs.Common.{le-leb}
use borrow.Author.Tests.{lt-leb}
use Rattle.areas.proofs.says_holes.Goals as goal

pub returns-then-rings-lt2 : goal.returns-then-rings-lt2
returns-then-rings-lt2 c = let a = c.args in rw (lt-leb 2 a.rings c.if-rings-lt2.true)

pub returns-else-rings-lt2 : goal.returns-else-rings-lt2
returns-else-rings-lt2 c = let a = c.args in rw (le-leb 2 a.rings c.if-rings-lt2.false)
