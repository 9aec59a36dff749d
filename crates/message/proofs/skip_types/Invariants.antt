-- `message::skip_types`: where the readings that are left end is where all of them end.
use mathlib.Core.Path.{◌≡◌}
use Rattle.format.specs.Message.{third, column_type}
use Rattle.scan.proofs.Loops.{Rest}
use Rattle.message.proofs.skip_types.Given as goal

abbrev pub invariant-loop : goal.invariant-loop
invariant-loop l = Rest third (λ j. column_type 45) l.s l.n l.counter l.at ≡ Rest third (λ j. column_type 45) l.s l.n 0 l.from
