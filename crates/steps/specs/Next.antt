-- The states that steps leave.
use Rattle.std.specs.Prelude.{ℕ, ◌-◌}
use Rattle.steps.specs.declared.Stage.{Stage}
use Rattle.steps.specs.State.{State, no_inner, no_outer}

-- a message that was begun: its count is its last field
abbrev pub begun_at : Stage → ℕ → State
begun_at stage n = record { stage = stage; position = n; count_at = n - 2; count = 0; inner = no_inner; outer = no_outer }

-- nothing is open but the message
abbrev pub between_at : Stage → ℕ → ℕ → ℕ → State
between_at stage n count_at count = record { stage = stage; position = n; count_at = count_at; count = count; inner = no_inner; outer = no_outer }

-- an array is open: its count's place, its type and how many elements it has
abbrev pub array_at : Stage → ℕ → ℕ → ℕ → ℕ → ℕ → ℕ → State
array_at stage n count_at count at type elements = record {
  stage = stage;
  position = n;
  count_at = count_at;
  count = count;
  inner = record { at = at; type = type; count = elements };
  outer = no_outer;
}

-- the table of a state is still open, with so many rows; and a row, its length's place and how many cells it has
abbrev pub table_at : Stage → ℕ → State → ℕ → ℕ → ℕ → State
table_at stage n st at cells rows =
    let o = st.outer in record {
      stage = stage;
      position = n;
      count_at = st.count_at;
      count = st.count;
      inner = record { at = at; type = 0; count = cells };
      outer = record { at = o.at; rows_at = o.rows_at; rows = rows; types = o.types };
    }
