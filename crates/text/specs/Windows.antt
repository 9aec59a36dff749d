-- A text by its bytes: which may stand after the three before it.
use Rattle.std.specs.Prelude.{ℕ, ◌+◌, ◌<◌, ◌≡◌, Bool, true, false, ◌&&◌, ◌||◌, not, List, get_or, leb, ltb, eqb}
use Rattle.format.specs.Text.{tail}

abbrev pub unlike : Bool → Bool → Bool
unlike true b = not b
unlike false b = b

-- a sequence goes on after the last of three bytes if it is the first one of two or more, or the one before it of three or more, or the one before that of four
abbrev pub goes_on : ℕ → ℕ → ℕ → Bool
goes_on a b c = leb 0xc0 c || (leb 0xe0 b || leb 0xf0 a)

-- no sequence begins with a, or none that goes on with b
abbrev pub wrong_pair : ℕ → ℕ → Bool
wrong_pair a b =
    ((leb 0xc0 a && leb a 0xc1) || leb 0xf5 a)
    || (((eqb a 0xe0 && ltb b 0xa0) || (eqb a 0xed && ltb 0x9f b))
    || ((eqb a 0xf0 && ltb b 0x90) || (eqb a 0xf4 && ltb 0x8f b)))

-- d doesn't stand after a, b and c in a text
abbrev pub wrong_after : ℕ → ℕ → ℕ → ℕ → Bool
wrong_after a b c d = unlike (goes_on a b c) (tail d) || wrong_pair c d

-- the n bytes that follow the three at a place may stand where they do
abbrev pub RightRun : List ℕ → ℕ → ℕ → Type 0
RightRun b i n = (k : ℕ) → k < n → wrong_after (get_or b (i + k) 0) (get_or b (i + k + 1) 0) (get_or b (i + k + 2) 0) (get_or b (i + k + 3) 0) ≡ false

-- no sequence goes on after the three bytes at a place
abbrev pub Between : List ℕ → ℕ → Type 0
Between b i = goes_on (get_or b i 0) (get_or b (i + 1) 0) (get_or b (i + 2) 0) ≡ false
