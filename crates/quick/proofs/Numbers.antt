-- Numbers of 2, 4 and 8 bytes, written out.
use Prim.Native.Nat.{ℕ, zero, suc, ◌+◌, ◌*◌, ◌^◌, ◌<◌}
use mathlib.Core.Path.{◌≡◌, refl, sym, ap}
use mathlib.Core.List.{List}
use lib.ListN.{get_or}
use lib.Arith.{digits_lt}
use native.Mathlib.Omega.{arith}
use native.Mathlib.Nat.{pow-succ'}
use Rattle.format.specs.Number.{num_at}
use Rattle.scan.proofs.Sixteen.{num_at_split}

sum : (a b c d x y z : ℕ) → x ≡ b → y ≡ c → z ≡ d → a * 256 ^ 3 + (x * 256 ^ 2 + (y * 256 ^ 1 + (z * 256 ^ 0 + 0))) ≡ a * 16777216 + (b * 65536 + (c * 256 + d))
sum a b c d x y z e f g = rw (e, f, g) (omega arith)

moved : (s : List ℕ) (i j : ℕ) → i ≡ j → get_or s i 0 ≡ get_or s j 0
moved s i j e = ap (λ (i : ℕ). get_or s i 0) e

pub four_is : (s : List ℕ) (at : ℕ) → get_or s at 0 * 16777216 + (get_or s (at + 1) 0 * 65536 + (get_or s (at + 2) 0 * 256 + get_or s (at + 3) 0)) ≡ num_at 4 s at
unfolding num_at
four_is s at =
    sym (sum (get_or s at 0) (get_or s (at + 1) 0) (get_or s (at + 2) 0) (get_or s (at + 3) 0) _ _ _ refl (moved s (at + 1 + 1) (at + 2) (omega arith)) (moved s (at + 1 + 1 + 1) (at + 3) (omega arith)))

pub two_is : (s : List ℕ) (at : ℕ) → get_or s at 0 * 256 + get_or s (at + 1) 0 ≡ num_at 2 s at
unfolding num_at
two_is s at = omega arith

pub eight_is : (s : List ℕ) (at : ℕ) → (num_at 2 s at * 0x1000000000000 + num_at 2 s (at + 2) * 0x100000000) + (num_at 2 s (at + 4) * 0x10000 + num_at 2 s (at + 6)) ≡ num_at 8 s at
eight_is s at =
    let cut : num_at 8 s at ≡ num_at 4 s at * 0x100000000 + num_at 4 s (at + 4) = num_at_split 4 4 s at in
    let high : num_at 4 s at ≡ num_at 2 s at * 0x10000 + num_at 2 s (at + 2) = num_at_split 2 2 s at in
    let low : num_at 4 s (at + 4) ≡ num_at 2 s (at + 4) * 0x10000 + num_at 2 s (at + 4 + 2) = num_at_split 2 2 s (at + 4) in
    let last : num_at 2 s (at + 4 + 2) ≡ num_at 2 s (at + 6) = ap (num_at 2 s) (omega arith) in
    omega arith

module _ (s : List ℕ) (bytes : (i : ℕ) → get_or s i 0 < 256) where
  pub few : (k at : ℕ) → num_at k s at < 256 ^ k
  unfolding num_at
  few zero at = omega arith
  few (suc k) at = rw pow-succ' (digits_lt (bytes at) (few k (at + 1)))
