-- `quick::plain_rows`: where the rows that are left end is where all end.
use mathlib.Core.Path.{◌≡◌}
use mathlib.Core.List.{List}
use Prim.Native.Nat.{ℕ, ◌-◌}
use Rattle.format.specs.Message.{row}
use Rattle.quick.specs.Past.{Ends, PlainRow}
use Rattle.quick.proofs.plain_rows.Given as goal

abbrev pub invariant-loop-i : goal.invariant-loop-i
invariant-loop-i l = (types : List ℕ) → PlainRow types l.plain → Ends (row types) l.s (l.n - l.i) l.at ≡ Ends (row types) l.s l.n l.from
