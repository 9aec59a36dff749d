-- `message::skip_tables`: where the readings that are left end is where all of them end.
use mathlib.Core.Path.{◌≡◌}
use Rattle.format.specs.Message.{first, table}
use Rattle.scan.proofs.Loops.{Rest}
use Rattle.message.proofs.skip_tables.Given as goal

abbrev pub invariant-loop : goal.invariant-loop
invariant-loop l = Rest first (λ j. table) l.m l.n l.counter l.at ≡ Rest first (λ j. table) l.m l.n 0 l.from
