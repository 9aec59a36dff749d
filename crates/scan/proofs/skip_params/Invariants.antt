-- `scan::skip_params`: where the readings that are left end is where all of them end.
use mathlib.Core.Path.{◌≡◌}
use Rattle.format.specs.Message.{first, param}
use Rattle.scan.proofs.Loops.{Rest}
use Rattle.scan.proofs.skip_params.Given as goal

abbrev pub invariant-loop : goal.invariant-loop
invariant-loop l = Rest first (λ j. param) l.s l.n l.counter l.at ≡ Rest first (λ j. param) l.s l.n 0 l.from
