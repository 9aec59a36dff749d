-- The columns that a caller gives: entries, each with a type and a name's place in a name buffer.
use Rattle.std.specs.Prelude.{ℕ, ◌+◌, List, [], ◌∷◌, map, length, take, drop, leb}
use Rattle.std.proofs.Math.Option.{Option, some, none}
use Rattle.format.specs.declared.Fault.TheVariants.{Limit, WireType}
use Rattle.format.specs.Result.{pick}
use Rattle.format.specs.Number.{num_bytes}
use Rattle.format.specs.Format.{Verdict}
use Rattle.format.specs.Message.{most_columns}
use Rattle.put.specs.Put.{sized}
use Rattle.steps.specs.State.{all_columns}
use Rattle.steps.specs.Plans.{also, test}
use Rattle.steps.specs.Arguments.{Column, name_faults, types_of}
use Rattle.columns.specs.declared.Column.{Column as Entry}

-- what stands where an entry is not told
abbrev pub no_entry : Entry
no_entry = record { wire_type = 0; start = 0; size = 0 }

-- an entry's name; none if it ends past the name buffer, so that an empty name may start at the buffer's end
unfoldable pub name_of : List ℕ → Entry → Option (List ℕ)
name_of names e = pick (leb (e.start + e.size) (length names)) (some (take e.size (drop e.start names))) none

abbrev pub column_of : List ℕ → Entry → Column
column_of names e = record { type = e.wire_type; name = name_of names e }

-- the columns that entries stand for, with a name buffer
abbrev pub columns_of : List Entry → List ℕ → List Column
columns_of es names = map (column_of names) es

abbrev pub types_in : List Entry → List ℕ
types_in es = map (λ e. e.wire_type) es

-- the bytes of a type, and of a name with its length
abbrev pub type_bytes : Entry → List ℕ
type_bytes e = num_bytes 1 e.wire_type

abbrev pub name_bytes : List ℕ → Entry → List ℕ
name_bytes names e = sized (name_of names e)

-- how many bytes the names have, with their lengths
unfoldable pub names_size : List Entry → ℕ
names_size [] = 0
names_size (e ∷ es) = 4 + e.size + names_size es

-- what is wrong with columns, in wire order: their number, their types, their names
abbrev pub columns_fault : ℕ → List Column → Verdict
columns_fault p cs = also (test (leb (length cs) most_columns) Limit p) (also (test (all_columns (types_of cs)) WireType p) (name_faults p cs))
