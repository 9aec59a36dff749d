-- A table's columns, as the code answers them: where their types stand, how many there are, and where the metadata ends.
use Rattle.std.specs.Prelude.{ℕ, length, Result, Ok, Err}
use Rattle.format.specs.declared.Refusal.{Refusal}
use Rattle.format.specs.Result.{Res, ok, no}
use Rattle.format.specs.Message.{Metadata}
use Rattle.scan.specs.Shown.{refusal}

-- the metadata that was read, where the types stand at a place
abbrev pub shown_columns : ℕ → Res (Metadata × ℕ) → Result (ℕ × ℕ × ℕ) Refusal
shown_columns types (ok p) = Ok (types, (length p.0.types), p.1)
shown_columns types (no f p) = Err (refusal f p)
