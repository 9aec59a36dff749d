-- `quick::past_cells`: while the place is in the room, where the cells that are left end is where all end.
use mathlib.Core.Path.{◌≡◌}
use Prim.Native.Nat.{◌+◌, ◌*◌, ◌≤◌}
use lib.ListN.{length, get_or}
use Rattle.format.specs.Message.{third}
use Rattle.format.specs.Value.{value}
use Rattle.scan.proofs.Loops.{Rest}
use Rattle.quick.specs.Past.{most_value}
use Rattle.quick.proofs.past_cells.Given as goal

abbrev pub invariant-loop-t : goal.invariant-loop-t
invariant-loop-t l =
    (l.at ≤ l.from + l.t-index * most_value)
    × (l.at ≤ length l.s → Rest third (λ j. value 50 51 (get_or l.types.bytes.now j 0)) l.s (length l.types.bytes.now) l.t-index l.at ≡ Rest third (λ j. value 50 51 (get_or l.types.bytes.now j 0)) l.s (length l.types.bytes.now) 0 l.from)
