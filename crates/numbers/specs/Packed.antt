-- How an answer is one number: the refusal's number, or 0, in its low 8 bits, and the place, or what was found, above them.
use Rattle.std.specs.Prelude.{ℕ, ◌+◌, ◌*◌, ◌%◌, ◌^◌}
use Rattle.format.specs.declared.Fault.{Fault}
use Rattle.format.specs.Result.{Res, ok, no, number_of}
use Rattle.format.specs.Format.{Entry}
use Rattle.query.specs.declared.TableLayout.{TableLayout}
use Rattle.query.specs.declared.ColumnLayout.{ColumnLayout}

-- no slice is so long that a place in it has more than 56 bits; a forged writer's position may, and then its low 56 are told
abbrev pub above : ℕ → ℕ
above n = n * 2 ^ 8 % 2 ^ 64

abbrev pub packed_no : Fault → ℕ → ℕ
packed_no f p = above p + number_of f

module _ {A : Type 0} where
  -- by the numbers that faults have, and by what an accepted thing is told
  abbrev pub packed_by : (Fault → ℕ) → (A → ℕ) → Res A → ℕ
  packed_by numbering told (ok a) = above (told a)
  packed_by numbering told (no f p) = above p + numbering f

  abbrev pub packed : (A → ℕ) → Res A → ℕ
  packed = packed_by number_of

  abbrev pub nothing : A → ℕ
  nothing a = 0

-- what is told of a number, an entry and its number in the list, a table and a column
abbrev pub itself : ℕ → ℕ
itself n = n

abbrev pub number_in : Entry × ℕ → ℕ
number_in p = p.1

abbrev pub rows_of : TableLayout → ℕ
rows_of l = l.rows

abbrev pub columns_of : TableLayout → ℕ
columns_of l = l.columns

abbrev pub type_of : ColumnLayout → ℕ
type_of l = l.wire_type
