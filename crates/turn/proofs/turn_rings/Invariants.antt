-- `turn::turn_rings`: one ring more is turned, and the others are left.
use Prim.Native.Nat.{ℕ, ◌-◌}
use mathlib.Core.List.{List}
use Rattle.turn.specs.Turning.{Rings, SomeRings}
use Rattle.turn.proofs.turn_rings.Given as goal

abbrev pub invariant-loop : goal.invariant-loop
invariant-loop l = SomeRings l.b l.at (l.n - l.counter) × ((target : List ℕ) → Rings l.initial.b target l.from l.n → Rings l.b target l.at (l.n - l.counter))
