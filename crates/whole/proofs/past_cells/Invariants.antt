-- `whole::past_cells`: what the cells that are left are answered is what all are.
use Prim.Native.Nat.{◌≤◌}
use mathlib.Core.Path.{◌≡◌}
use mathlib.Core.Bool.{true}
use lib.ListN.{take}
use Rattle.steps.specs.State.{all_columns}
use Rattle.whole.proofs.Answers.{Passed}
use Rattle.whole.proofs.past_cells.Given as goal

abbrev pub invariant-loop-k : goal.invariant-loop-k
invariant-loop-k l =
    (l.from ≤ l.at) × (l.at ≤ l.end) × (all_columns (take l.k l.types) ≡ true) × Passed l.bytes l.cells l.types l.from l.end l.k l.at
