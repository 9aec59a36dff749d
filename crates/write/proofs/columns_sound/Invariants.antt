-- `write::columns_sound`: after i turns it says whether the first i types are columns.
use mathlib.Core.Path.{◌≡◌}
use lib.ListN.{take}
use Rattle.steps.specs.State.{all_columns}
use Rattle.write.proofs.columns_sound.Given as goal

abbrev pub invariant-loop-i : goal.invariant-loop-i
invariant-loop-i l = l.fine ≡ all_columns (take l.i l.types)
