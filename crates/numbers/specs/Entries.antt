-- Columns as numbers, three for each: its type, and where its name starts and how long it is.
use Rattle.std.specs.Prelude.{ℕ, ◌+◌, List, [], ◌∷◌, get_or}
use Rattle.columns.specs.declared.Column.{Column}
use Rattle.numbers.specs.Stored.{byte_of}

abbrev pub entry : ℕ → ℕ → ℕ → Column
entry t start size = record { wire_type = byte_of t; start = start; size = size }

abbrev pub entry_at : List ℕ → ℕ → Column
entry_at ns i = entry (get_or ns i 0) (get_or ns (i + 1) 0) (get_or ns (i + 2) 0)

-- what is left behind the last column is left out
unfoldable pub entries_of : List ℕ → List Column
entries_of [] = []
entries_of (t ∷ []) = []
entries_of (t ∷ start ∷ []) = []
entries_of (t ∷ start ∷ size ∷ ns) = entry t start size ∷ entries_of ns
