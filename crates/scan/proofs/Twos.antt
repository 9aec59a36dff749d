-- The law of two's complement, for every width: a signed number is read back from the bytes of its number.
use mathlib.Core.Path.{◌≡◌, refl}
use Prim.Native.Nat.{ℕ, suc, ◌-◌, ◌^◌, ◌<◌}
use native.Mathlib.Nat.{mod-eq_of_lt}
use native.Mathlib.Omega.{arith}
use mathlib.Core.Bool.{Bool, true, false}
use lib.Dec.{ltb}
use lib.IntN.{pos, negsuc}
use Rattle.format.specs.Result.{pick}
use Rattle.format.specs.Number.{half}
use Rattle.scan.specs.Signed.{signed, unsigned}

pub signed_back : (k n : ℕ) → n < 256 ^ k → unsigned k (signed k n) ≡ n
signed_back k n l = rw (mod-eq_of_lt l) (by_sign (ltb n (half k)))
  where
    by_sign : (t : Bool) → unsigned k (pick t (pos n) (negsuc (256 ^ k - 1 - n))) ≡ n
    by_sign true = refl
    by_sign false = turned (256 ^ k) n l
      where
        turned : (p n : ℕ) → n < p → p - suc (p - 1 - n) ≡ n
        turned p n l = omega arith
