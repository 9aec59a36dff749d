-- `scan::read_number`: the number so far is what the bytes so far gave.
use Prim.Native.Nat.{◌+◌, ◌^◌, ◌<◌, ◌≤◌}
use lib.ListN.{length}
use Rattle.scan.proofs.Digits.{Read}
use Rattle.scan.proofs.read_number.Given as goal

abbrev pub invariant-loop-i : goal.invariant-loop-i
invariant-loop-i l = Read l.width l.s l.at l.n l.i × (l.n < 256 ^ l.i) × (l.at + l.width ≤ length l.s) × (l.width ≤ 8)
