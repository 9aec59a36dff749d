-- A string is shown by its place.
use Rattle.std.specs.Prelude.{ℕ, ◌+◌, List, length}
use Rattle.std.proofs.Math.Option.{Option, some, none}
use Rattle.record.specs.declared.Span.{Span}

-- a string whose length field stands at a place: where its bytes start and how many they are, or null
abbrev pub span_of : ℕ → Option (List ℕ) → Span
span_of at none = Span.Null
span_of at (some bs) = Span.At (at + 4) (length bs)

-- the same of a string that is there or not
abbrev pub note_of : ℕ → Option (Option (List ℕ)) → Span
note_of at none = Span.Absent
note_of at (some t) = span_of at t
