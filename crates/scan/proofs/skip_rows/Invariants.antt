-- `scan::skip_rows`: where the readings that are left end is where all of them end.
use mathlib.Core.Path.{◌≡◌}
use Rattle.format.specs.Message.{second, row}
use Rattle.scan.proofs.Loops.{Rest}
use Rattle.scan.proofs.skip_rows.Given as goal

abbrev pub invariant-loop : goal.invariant-loop
invariant-loop l = Rest second (λ j. row l.types) l.s l.n l.counter l.at ≡ Rest second (λ j. row l.types) l.s l.n 0 l.from
