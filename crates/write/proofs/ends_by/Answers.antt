-- `write::ends_by` meets its contract: a place that is passed leaves no room. Assumes nothing.
use borrow.Author.Tests.{lt-leb}
use native.Mathlib.Omega.{arith}
use Prim.Native.Nat.{◌+◌, ◌-◌}
use mathlib.Core.Path.{sym}
use Rattle.write.proofs.Tested.{same_leb}
use Rattle.write.proofs.ends_by.Goals as goal

pub returns-then-next-at : goal.returns-then-next-at
returns-then-next-at c = let a = c.args in sym (lt-leb (a.at + a.width) a.next (omega arith))

pub returns : goal.returns
returns c = let a = c.args in same_leb a.width (a.next - a.at) (a.at + a.width) a.next (λ h. omega arith) (λ h. omega arith)
