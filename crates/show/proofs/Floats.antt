-- Which patterns of 64 bits are numbers, and that those are read back from their floats.
use mathlib.Core.Path.{◌≡◌, sym, ◌∙◌, subst}
use Prim.Native.Nat.{ℕ, ◌%◌, ◌^◌, ◌≤◌, ◌<◌}
use native.Mathlib.Nat.{not-le_of_lt}
use mathlib.Core.Bool.{Bool, true, false, not}
use lib.Dec.{T, ltb, ltb→lt, lt→ltb, not_T}
use lib.Ieee.{binary64, of_bits, to_bits, nan_bits}
use lib.Ieee.Bits.{is_true, is_false, nan_bits_is, nan_bits_above, to_bits-of_bits}

abbrev top : ℕ
top = 0x8000000000000000

-- the infinity's pattern
abbrev endless : ℕ
endless = 0x7ff0000000000000

-- a pattern that is at most the infinity's, without the sign, is no NaN's
pub no_nan : (b : ℕ) → b % top ≤ endless → nan_bits binary64 b ≡ false
no_nan b l = nan_bits_above binary64 b ∙ is_false (ltb endless (b % top)) (not_T (ltb endless (b % top)) (λ (t : T (ltb endless (b % top))). not-le_of_lt (ltb→lt endless (b % top) t) l))

pub is_nan : (b : ℕ) → endless < b % top → nan_bits binary64 b ≡ true
is_nan b l = nan_bits_above binary64 b ∙ is_true (ltb endless (b % top)) (lt→ltb endless (b % top) l)

-- so it may be read as a number
pub numeral : (b : ℕ) → nan_bits binary64 b ≡ false → T (not (nan_bits binary64 b))
numeral b e = subst (λ (z : Bool). T (not z)) (sym e) tt

-- and the number has its bits
pub kept : (b : ℕ) → b < 2 ^ 64 → nan_bits binary64 b ≡ false → to_bits binary64 (of_bits binary64 b) ≡ b
kept b l e = to_bits-of_bits binary64 b l (subst (λ (z : Bool). T (not z)) (sym (sym (nan_bits_is binary64 b) ∙ e)) tt)
