-- What is found among the bytes of a name or a text, and what is asked of the second byte of a sequence once the first one is known.
use Rattle.std.specs.Prelude.{ℕ, ◌+◌, ◌<◌, Bool, ◌&&◌, Option, Some, None, List, get_or, ltb, eqb}
use Rattle.format.specs.declared.Fault.TheVariants.{Text}
use Rattle.format.specs.Result.{pick}
use Rattle.format.specs.Format.{Verdict, fine, bad}
use Rattle.format.specs.Text.{from_to, tail, sequence}

-- where something was found, if it was
abbrev pub Found : Type 0
Found = Option ℕ

-- where the first byte is that a rule refuses
abbrev pub shown_at : Verdict → Found
shown_at fine = None
shown_at (bad f k) = Some k

-- the n bytes from a place on are ASCII
abbrev pub LowRun : List ℕ → ℕ → ℕ → Type 0
LowRun b i n = (k : ℕ) → k < n → get_or b (i + k) 0 < 128

-- how many bytes the sequence has that begins at a place
abbrev pub sequence_at : List ℕ → ℕ → ℕ
sequence_at b i = sequence (get_or b i 0) (get_or b (i + 1) 0) (get_or b (i + 2) 0) (get_or b (i + 3) 0)

-- what is said of so many bytes of which the first r are well-formed, and no more
abbrev pub up_to : ℕ → ℕ → Verdict
up_to size r = pick (ltb r size) (bad Text r) fine

-- whether b may stand after the first byte a of three, or of four
abbrev pub second_of_three : ℕ → ℕ → Bool
second_of_three a b = pick (eqb a 0xe0) (from_to 0xa0 0xbf b) (pick (eqb a 0xed) (from_to 0x80 0x9f b) (tail b))

abbrev pub second_of_four : ℕ → ℕ → Bool
second_of_four a b = pick (eqb a 0xf0) (from_to 0x90 0xbf b) (pick (eqb a 0xf4) (from_to 0x80 0x8f b) (from_to 0xf1 0xf3 a && tail b))
