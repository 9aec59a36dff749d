-- `areas::pass_rings`: what is so of the rings that are left is so of all.
use Rattle.std.proofs.Common.{◌≡◌, ◌≤◌}
use Rattle.areas.proofs.Rounds.{Rest}
use Rattle.areas.proofs.pass_rings.Given as goal

abbrev pub invariant-loop-i : goal.invariant-loop-i
invariant-loop-i l = (l.i ≤ l.sought → l.found ≡ l.at) × (Rest l.b l.sought l.n l.i l.at l.found ≡ Rest l.b l.sought l.n 0 l.from l.from)
