-- Values as four numbers in a lent list: the type, the form, and two more by the form. The form is 0 for a value of a fixed size, 1 for bytes that
-- stand in the message, 2 for a null and 3 for an array. Parts of the message as two. And how a card fits as three.
use Rattle.std.specs.Prelude.{Option as Maybe, Some, None}
use Rattle.std.specs.Prelude.{ℕ, ◌+◌, ◌*◌, ◌^◌, ◌&&◌, List, [], ◌∷◌, eqb}
use Rattle.std.proofs.Math.Option.{Option, some, none}
use Rattle.format.specs.Result.{Res, ok, no, pick}
use Rattle.format.specs.Value.{t_null, t_point, t_array, is_null_point}
use Rattle.show.specs.declared.Cell.{Cell}
use Rattle.show.specs.declared.Raw.{Raw}
use Rattle.show.specs.Cells.{raw_of}
use Rattle.query.specs.Answers.{Given, span_in}
use Rattle.cards.specs.declared.Reason.{Reason}
use Rattle.cards.specs.Reasons.{reason_number}

module _ {A : Type 0} where
  -- a lent list after an answer: what was found, in numbers; a refusal leaves the list as it was
  abbrev pub lent : (A → List ℕ) → Res A → List ℕ → List ℕ
  lent told (ok a) before = told a
  lent told (no f p) before = before

-- what was found is in numbers already
abbrev pub found : List ℕ → List ℕ
found ns = ns

-- a value of a fixed size by its upper and lower 64 bits; a point whose bits are those of a null is told as null
abbrev pub bits_numbers : ℕ → ℕ → ℕ → List ℕ
bits_numbers t upper lower = pick (eqb t t_point && is_null_point (upper * 2 ^ 64 + lower)) (t ∷ 2 ∷ 0 ∷ 0 ∷ []) (t ∷ 0 ∷ upper ∷ lower ∷ [])

-- a value by what it is on the wire: its bits, or where its bytes start and how many they are; a null by 0 and 0
abbrev pub raw_numbers : Raw → List ℕ
raw_numbers (Raw.Bits t upper lower) = bits_numbers t upper lower
raw_numbers (Raw.Body t start size) = t ∷ 1 ∷ start ∷ size ∷ []
raw_numbers (Raw.Null t) = t ∷ 2 ∷ 0 ∷ 0 ∷ []

abbrev pub cell_numbers : Cell → List ℕ
cell_numbers c = raw_numbers (raw_of c)

-- an array by its elements' type and how many they are
abbrev pub given_numbers : Given → List ℕ
given_numbers Given.nothing = t_null ∷ 2 ∷ 0 ∷ 0 ∷ []
given_numbers (Given.value c) = cell_numbers c
given_numbers (Given.list e n) = t_array ∷ 3 ∷ e ∷ n ∷ []

-- a part of the message by where it starts and how long it is; a null, which no place and no name is, by 0 and 0
abbrev pub part_numbers : Option (ℕ × ℕ) → List ℕ
part_numbers p = (span_in (ok p)).0 ∷ (span_in (ok p)).1 ∷ []

abbrev pub part_in : Maybe (ℕ × ℕ) → Option (ℕ × ℕ)
part_in (Some p) = some p
part_in None = none

-- how a card fits: 0, or the reason's number; then 1 and where a column of its type and name stands, or 0 and 0
abbrev pub place_numbers : Option ℕ → List ℕ
place_numbers none = 0 ∷ 0 ∷ []
place_numbers (some i) = 1 ∷ i ∷ []

abbrev pub fit_numbers : Option (Reason × Option ℕ) → List ℕ
fit_numbers none = 0 ∷ place_numbers none
fit_numbers (some w) = reason_number w.0 ∷ place_numbers w.1
