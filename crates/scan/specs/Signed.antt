-- Two's complement: numbers of k bytes as signed numbers, and back.
use Rattle.std.specs.Prelude.{ℕ, suc, ◌-◌, ◌%◌, ◌^◌, ltb, ℤ, pos, negsuc}
use Rattle.format.specs.Number.{half}
use Rattle.format.specs.Result.{pick}

-- the signed number that the last k bytes of a number are: from the half of their range on it is negative
abbrev pub signed : ℕ → ℕ → ℤ
signed k n = pick (ltb (n % 256 ^ k) (half k)) (pos (n % 256 ^ k)) (negsuc (256 ^ k - 1 - n % 256 ^ k))

-- the number of k bytes that a signed number is
abbrev pub unsigned : ℕ → ℤ → ℕ
unsigned k (pos n) = n
unsigned k (negsuc n) = 256 ^ k - suc n
