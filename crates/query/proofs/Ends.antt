-- Equal from the end is equal: two lists of one length are compared from their last byte to their first, by the search for a name and by the opening of
-- a card. The bytes of one may stand anywhere: `byte` says which they are.
use Prim.Native.Nat.{ℕ, ◌-◌, ◌≤◌, ◌<◌}
use mathlib.Core.Path.{◌≡◌, subst}
use mathlib.Core.List.{List}
use mathlib.Core.Logic.{⊎_elim}
use lib.ListN.{length, get_or}
use lib.Seq.{ext_get_or}
use native.Mathlib.Nat.{eq-or-lt_of_le}
use native.Mathlib.Omega.{arith}

-- the bytes from one on have been seen, and are equal
abbrev pub EqualFrom : (ℕ → ℕ) → List ℕ → ℕ → Type 0
EqualFrom byte ys j = (k : ℕ) → j ≤ k → k < length ys → byte k ≡ get_or ys k 0

module _ (byte : ℕ → ℕ) (ys : List ℕ) where
  pub none_seen : (j : ℕ) → length ys ≤ j → EqualFrom byte ys j
  none_seen j all k after below = absurd (omega arith)

  pub one_more : (j : ℕ) → EqualFrom byte ys j → byte (j - 1) ≡ get_or ys (j - 1) 0 → EqualFrom byte ys (j - 1)
  one_more j seen here k after below =
      ⊎_elim (λ e. subst (λ (i : ℕ). byte i ≡ get_or ys i 0) e here) (λ later. seen k (omega arith) below) (eq-or-lt_of_le after)

pub equal_from_end : (xs ys : List ℕ) → length xs ≡ length ys → EqualFrom (λ k. get_or xs k 0) ys 0 → xs ≡ ys
equal_from_end xs ys long all = ext_get_or 0 xs ys long (λ k below. all k (omega arith) (omega arith))
