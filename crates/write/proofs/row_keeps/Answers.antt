-- `write::row_keeps` meets its contract: the limit is counted from the row or from the place, whichever comes later. Assumes nothing.
use borrow.Author.Tests.{le-leb, lt-leb}
use native.Mathlib.Omega.{arith}
use Prim.Native.Nat.{◌+◌, ◌-◌}
use mathlib.Core.Path.{sym}
use Rattle.format.specs.Message.{most_row}
use Rattle.write.proofs.Tested.{same_leb}
use Rattle.write.proofs.row_keeps.Goals as goal

pub returns-then-bytes-le-ROW_END : goal.returns-then-bytes-le-ROW_END
returns-then-bytes-le-ROW_END c = let a = c.args in sym (le-leb (a.at + a.bytes) (a.row + 4 + most_row) (omega arith))

pub returns-then-at-row : goal.returns-then-at-row
returns-then-at-row c = let a = c.args in same_leb (a.bytes - 2097156) (a.row - a.at) (a.at + a.bytes) (a.row + 4 + most_row) (λ h. omega arith) (λ h. omega arith)

pub returns-then-used-gt-ROW_END : goal.returns-then-used-gt-ROW_END
returns-then-used-gt-ROW_END c = let a = c.args in sym (lt-leb (a.at + a.bytes) (a.row + 4 + most_row) (omega arith))

pub returns : goal.returns
returns c = let a = c.args in same_leb a.bytes (2097156 - (a.at - a.row)) (a.at + a.bytes) (a.row + 4 + most_row) (λ h. omega arith) (λ h. omega arith)
