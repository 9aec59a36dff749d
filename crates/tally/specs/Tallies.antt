-- What the counts are held to, which ask no task at each field.
use Rattle.std.specs.Prelude.{◌≡◌, ℕ, ◌+◌, ◌*◌, ◌<◌, ◌≤◌, List, [], ◌∷◌, length}
use Rattle.format.specs.Result.{ok}
use Rattle.format.specs.Format.{Format, Index, number}
use Rattle.format.specs.Value.{width_of}
use Rattle.format.specs.Message.{most_columns, unlimited}
use Rattle.tally.specs.declared.Tour.{Tour}
use Rattle.tally.specs.Task.{list_task, seen_to}
use Rattle.tally.specs.Walks.{Walked}
use Rattle.tally.specs.declared.Tally.{Tally}

-- a count is a tour whose list has no room, so that no field is wanted
abbrev pub counting : Tally → Tour
counting t = record { at = t.at; task = seen_to (list_task 0 0) t.seen }

pub record Tallied {A : Type 0} (f : Format A) (s : List ℕ) (from after : Tally) : Type 0 where
  pub walks : (ix : Index) → Walked f s ix (counting from) [] (counting after) []

-- where the room ends whose length stands at a place
abbrev pub RoomEnd : List ℕ → ℕ → ℕ → Type 0
RoomEnd s at r = (n next : ℕ) → (number 4 0).read s at ≡ ok (n, next) → next + n ≤ length s → r ≡ next + n

-- the types all have fixed sizes, which add up to so many bytes
abbrev pub Fixed : List ℕ → Type 0
Fixed [] = Unit {0}
Fixed (t ∷ ts) = (0 < width_of t) × Fixed ts

abbrev pub widths : List ℕ → ℕ
widths [] = 0
widths (t ∷ ts) = width_of t + widths ts

-- the most bytes of a row of fixed sizes, with its length
abbrev pub most_fixed : ℕ
most_fixed = 4 + 16 * most_columns

-- how many bytes a row has by the types of its columns; 0 promises nothing
pub record FixedRow (types : List ℕ) (size : ℕ) : Type 0 where
  pub few : size ≤ most_fixed
  pub sizes : 0 < size → (length types ≤ most_columns) × Fixed types × (size ≡ 4 + widths types)

-- n rows, at least one, of so many bytes stand at a place
pub record Standing (s : List ℕ) (at size n : ℕ) : Type 0 where
  pub some_rows : 0 < n
  pub some_bytes : 0 < size
  pub few : n ≤ unlimited
  pub fit : at + n * size ≤ length s
