-- `query::jump`: where the readings that are left end is where all of them end.
use mathlib.Core.Path.{◌≡◌}
use mathlib.Core.Bool.{false}
use Rattle.format.specs.Format.{counted}
use Rattle.format.specs.Value.{anything}
use Rattle.format.specs.Message.{first, unlimited}
use Rattle.scan.proofs.Loops.{Rest}
use Rattle.query.proofs.jump.Given as goal

abbrev pub invariant-loop : goal.invariant-loop
invariant-loop l = Rest first (λ j. counted false unlimited anything 0 0) l.s l.n l.counter l.at ≡ Rest first (λ j. counted false unlimited anything 0 0) l.s l.n 0 l.from
