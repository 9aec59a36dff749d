-- `whole::put_cells`: what was written, with the cells that are left, is what all come to.
use Prim.Native.Nat.{◌-◌, ◌/◌}
use mathlib.Core.Path.{◌≡◌}
use lib.ListN.{length}
use Rattle.whole.specs.Laid.{laid, FitAll}
use Rattle.whole.proofs.put_cells.Given as goal

abbrev pub invariant-loop-k : goal.invariant-loop-k
invariant-loop-k l =
    FitAll l.bytes l.types l.cells l.k (length l.cells / 2 - l.k) l.at (length l.out)
    × (laid l.bytes l.types l.cells l.k (length l.cells / 2 - l.k) l.at l.out ≡ laid l.bytes l.types l.cells 0 (length l.cells / 2) l.from l.initial.out)
