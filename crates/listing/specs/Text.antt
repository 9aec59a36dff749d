-- A line of the listing as text.
use Rattle.std.specs.Prelude.{ℕ, zero, suc, ◌+◌, ◌^◌, cond, List, [], ◌∷◌, ◌++◌, ltb, get_or}
use Rattle.listing.specs.Digits.{last_digits}

-- the fewest digits, from k on, that hold n; at most `more` more than k are tried
unfoldable pub places_from : ℕ → ℕ → ℕ → ℕ
places_from zero k n = k
places_from (suc more) k n = cond (ltb n (10 ^ k)) k (places_from more (suc k) n)

-- n in decimal, and a byte behind it; a number below 2^64 has at most 20 digits
unfoldable pub spelled : ℕ → ℕ → List ℕ
spelled n after = last_digits 10 (places_from 19 1 n) n ++ (after ∷ [])

-- the byte behind the i-th number of a line: a space, and a line feed behind the last
abbrev pub behind_of : ℕ → ℕ
behind_of i = cond (ltb i 5) 32 10

-- the first k numbers from `from` on; six of them are a line
unfoldable pub words_of : List ℕ → ℕ → ℕ → List ℕ
words_of numbers from zero = []
words_of numbers from (suc k) = words_of numbers from k ++ spelled (get_or numbers (from + k) 0) (behind_of k)
