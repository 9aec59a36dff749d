-- `scan::skip_cells`: where the cells that are left end is where all of them end.
use mathlib.Core.Path.{◌≡◌}
use lib.ListN.{length, get_or}
use Rattle.format.specs.Message.{third}
use Rattle.format.specs.Value.{value}
use Rattle.scan.proofs.Loops.{Rest}
use Rattle.scan.proofs.skip_cells.Given as goal

abbrev pub invariant-loop-t : goal.invariant-loop-t
invariant-loop-t l = Rest third (λ j. value 50 51 (get_or l.types j 0)) l.s (length l.types) l.t-index l.at ≡ Rest third (λ j. value 50 51 (get_or l.types j 0)) l.s (length l.types) 0 l.from
