-- How many bytes the halves of a value have, by its type.
use Prim.Native.Nat.{ℕ}
use mathlib.Core.Path.{◌≡◌}
use mathlib.Core.Bool.{Bool, true, false, ◌||◌}
use mathlib.Core.Logic.{◌⊎◌, inl, inr}
use lib.Dec.{eqb}
use borrow.Author.Tests.{ne_eqb}
use Rattle.format.specs.Result.{pick}
use Rattle.format.specs.Value.{width_of, t_tinyint, t_smallint, t_integer, t_bigint, t_float, t_timestamp, t_decimal, t_point}
use Rattle.whole.specs.Laid.{upper_of, lower_of}

-- the types whose lower half has 8 bytes
abbrev pub Eight : ℕ → Type 0
Eight t = (t ≡ t_bigint) ⊎ ((t ≡ t_float) ⊎ ((t ≡ t_timestamp) ⊎ ((t ≡ t_decimal) ⊎ (t ≡ t_point))))

-- one that isn't a decimal's or a point's has no upper half
pub narrow_type : (t : ℕ) → (t ≡ t_decimal → ⊥) → (t ≡ t_point → ⊥) → upper_of t ≡ 0
narrow_type t d p =
    either (eqb t t_tinyint) (eqb t t_smallint) (eqb t t_integer) (eqb t t_bigint || (eqb t t_float || eqb t t_timestamp)) (rw (ne_eqb t t_decimal d, ne_eqb t t_point p))
  where
    width : Bool → Bool → Bool → Bool → ℕ
    width a b c d = pick a 1 (pick b 2 (pick c 4 (pick d 8 0)))

    either : (a b c d : Bool) → width_of t ≡ width a b c d → upper_of t ≡ 0
    either true b c d e = rw e
    either false true c d e = rw e
    either false false true d e = rw e
    either false false false true e = rw e
    either false false false false e = rw e

pub no_lower : (t : ℕ) → (t ≡ t_tinyint → ⊥) → (t ≡ t_smallint → ⊥) → (t ≡ t_integer → ⊥) → (Eight t → ⊥) → lower_of t ≡ 0
no_lower t a b c n =
    simp (ne_eqb t t_tinyint a, ne_eqb t t_smallint b, ne_eqb t t_integer c, ne_eqb t t_bigint (λ e. n (inl e)), ne_eqb t t_float (λ e. n (inr (inl e))), ne_eqb t t_timestamp (λ e. n (inr (inr (inl e)))), ne_eqb t t_decimal (λ e. n (inr (inr (inr (inl e))))), ne_eqb t t_point (λ e. n (inr (inr (inr (inr e))))))
