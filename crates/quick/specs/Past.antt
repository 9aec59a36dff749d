-- What the quick functions promise of the place that they answer. 0 promises nothing: scan is asked then.
use Rattle.format.specs.declared.Refusal.{Refusal}
use Rattle.std.specs.Prelude.{ℕ, ◌+◌, ◌*◌, ◌-◌, ◌^◌, ◌<◌, ◌≤◌, ◌≡◌, Bool, true, List, map, length, replicate, eqb, Result, Ok, Option, Some, None}
use Rattle.format.specs.Result.{Res, pick}
use Rattle.format.specs.Number.{num_at, null4}
use Rattle.format.specs.Format.{Format, each}
use Rattle.format.specs.Value.{value, width_of, most_bytes, t_decimal, t_point}
use Rattle.format.specs.Message.{second, third, row, most_columns}
use Rattle.scan.specs.Shown.{shown_next}
use Rattle.quick.specs.declared.Run.{Run}

-- the most bytes that a value has
abbrev pub most_value : ℕ
most_value = 4 + most_bytes

-- a place is so far below the largest number that a value can be passed
abbrev pub Low : ℕ → Type 0
Low at = at + most_value < 2 ^ 64

module _ {A : Type 0} where
  -- a reading that starts at a place ends at r, if r is in the room; where it isn't, the room's end tells
  abbrev pub Past : List ℕ → ℕ → Res (A × ℕ) → ℕ → Type 0
  Past s at x r = 0 < r → (at ≤ r) × (r ≤ at + most_value) × (r ≤ length s → shown_next x ≡ Ok r)

module _ {A : Type 0} where
  -- a reading that ends at r, if r is in the room; and one that ends at r
  abbrev pub Within : List ℕ → Res (A × ℕ) → ℕ → Type 0
  Within s x r = 0 < r → r ≤ length s → shown_next x ≡ Ok r

  abbrev pub Surely : Res (A × ℕ) → ℕ → Type 0
  Surely x r = 0 < r → shown_next x ≡ Ok r

-- a counted body of at most so many bytes, which fits
abbrev pub SureBody : List ℕ → ℕ → ℕ → Option (ℕ × ℕ) → Type 0
SureBody s at most (Some (start, end)) = (start ≡ at + 4) × (end ≡ at + 4 + num_at 4 s at) × (num_at 4 s at ≤ most) × (end ≤ length s)
SureBody s at most None = Unit

-- how many bytes follow a length
abbrev pub size_of : ℕ → ℕ
size_of n = pick (eqb n null4) 0 n

-- a counted body or a null
abbrev pub PastBody : List ℕ → ℕ → ℕ → Type 0
PastBody s at r = 0 < r → (at + 4 ≤ length s) × (size_of (num_at 4 s at) ≤ most_bytes) × (r ≡ at + 4 + size_of (num_at 4 s at))

-- how many bytes a value has whose type has one size and no rule; 0 for any other
abbrev pub plain_of : ℕ → ℕ
plain_of t = pick (eqb t t_decimal) 0 (pick (eqb t t_point) 0 (width_of t))

-- the most bytes that such cells of a row have together
abbrev pub most_plain : ℕ
most_plain = 8 * most_columns

-- a row of these types: any r bytes are its cells
abbrev pub PlainRow : List ℕ → ℕ → Type 0
PlainRow types r = 0 < r → (s : List ℕ) (at : ℕ) → at + r ≤ length s → shown_next ((each third 0 (map (value 50 51) types)).read s at) ≡ Ok (at + r)

-- whether a row of so many bytes stands at a place
abbrev pub RowOf : List ℕ → ℕ → ℕ → Bool → Type 0
RowOf s at plain t = t ≡ true → (at + (4 + plain) ≤ length s) × (num_at 4 s at ≡ plain)

module _ {A : Type 0} (f : Format A) (s : List ℕ) where
  -- where n readings by one format end
  abbrev pub Ends : ℕ → ℕ → Result ℕ Refusal
  Ends n at = shown_next ((each second 0 (replicate n f)).read s at)

-- after some of n readings, those that are left end where all do: so for any readings of which one fewer ends alike from where a step comes to
abbrev pub RunBy : (ℕ → ℕ → Type 0) → ℕ → ℕ → Run → Type 0
RunBy steps from n r =
    (r.passed ≤ n)
    × ((ends : ℕ → ℕ → Result ℕ Refusal) → ((k at next : ℕ) → steps at next → 0 < next → ends k next ≡ ends (k + 1) at) → ends (n - r.passed) r.at ≡ ends n from)

-- the same of rows of so many bytes, whatever their types, if any such bytes are their cells
abbrev pub PlainRun : List ℕ → ℕ → ℕ → ℕ → Run → Type 0
PlainRun s from n plain r = (r.passed ≤ n) × ((types : List ℕ) → PlainRow types plain → Ends (row types) s (n - r.passed) r.at ≡ Ends (row types) s n from)
