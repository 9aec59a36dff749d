-- `quick::past_each`: where those that are left end is where all end.
use mathlib.Core.Path.{◌≡◌}
use Prim.Native.Nat.{ℕ, ◌+◌, ◌-◌, ◌<◌}
use Rattle.std.specs.Prelude.{Result}
use Rattle.format.specs.declared.Refusal.{Refusal}
use Rattle.quick.proofs.past_each.Given as goal

abbrev pub invariant-loop-i : goal.invariant-loop-i
invariant-loop-i g l =
    (ends : ℕ → ℕ → Result ℕ Refusal) → ((k at next : ℕ) → goal.F-post g l.fn.past at next → 0 < next → ends k next ≡ ends (k + 1) at)
    → ends (l.n - l.i) l.at ≡ ends l.n l.from
