-- `quick::plain_row`: any bytes are the cells so far, as many as their sizes add up to.
use mathlib.Core.Path.{◌≡◌}
use Prim.Native.Nat.{ℕ, ◌+◌, ◌*◌, ◌≤◌}
use mathlib.Core.List.{List}
use lib.ListN.{length, get_or}
use Rattle.format.specs.Message.{third}
use Rattle.format.specs.Value.{value}
use Rattle.scan.proofs.Loops.{Rest}
use Rattle.quick.proofs.plain_row.Given as goal

abbrev pub invariant-loop-t : goal.invariant-loop-t
invariant-loop-t l =
    (l.sum ≤ l.t-index * 8)
    × ((s : List ℕ) (at : ℕ) → at + l.sum ≤ length s
    → Rest third (λ j. value 50 51 (get_or l.types.bytes.now j 0)) s (length l.types.bytes.now) l.t-index (at + l.sum) ≡ Rest third (λ j. value 50 51 (get_or l.types.bytes.now j 0)) s (length l.types.bytes.now) 0 at)
