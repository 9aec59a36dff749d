-- `scan::skip_names`: where the readings that are left end is where all of them end.
use mathlib.Core.Path.{◌≡◌}
use mathlib.Core.Bool.{false}
use Rattle.format.specs.Message.{third}
use Rattle.format.specs.Value.{string, ascii}
use Rattle.scan.proofs.Loops.{Rest}
use Rattle.scan.proofs.skip_names.Given as goal

abbrev pub invariant-loop : goal.invariant-loop
invariant-loop l = Rest third (λ j. string false ascii 46 47) l.s l.n l.counter l.at ≡ Rest third (λ j. string false ascii 46 47) l.s l.n 0 l.from
