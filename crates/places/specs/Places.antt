-- Where things stand in a message. A part of a response or of an invocation stands where the message would end if it were cut there: after the encoding of what
-- comes before it. Lengths and counts have the same size whatever they say, so nothing else decides a place, and no layout is restated here.
use Rattle.std.specs.Prelude.{ℕ, ◌+◌, Bool, List, [], length, take}
use Rattle.std.proofs.Math.Option.{Option, some, none}
use Rattle.format.specs.Result.{pick}
use Rattle.format.specs.Value.{Value, t_array}
use Rattle.format.specs.Message.{Metadata, metadata, row, Table, table, Response, Message, the_response, a_response, Items, bytes, values, array, Param, param, Invocation, an_invocation, the_invocation, response_layout, message_bytes}

-- the tables of a response, and the same response with other tables
abbrev pub tables_of : Message → List Table
tables_of r = (the_response r.content).tables

abbrev pub retabled : Response → List Table → Response
retabled p l = record { head = p.head; tables = l }

-- table t: after the tables before it, in a response with its round trip or without
unfoldable pub table_at : Bool → Message → ℕ → ℕ
table_at timed r t = length (message_bytes (response_layout timed) (record { version = r.version; content = a_response (retabled (the_response r.content) (take t (tables_of r))) }))

-- in a table at a place, after its length: its metadata
abbrev pub metadata_at : ℕ → ℕ
metadata_at at = at + 4

-- the type byte of column c: after the types before it
unfoldable pub column_type_at : ℕ → Metadata → ℕ → ℕ
column_type_at at d c = metadata_at at + length (metadata.bytes (record { status = d.status; types = take c d.types; names = [] }))

-- the name of column c, from its length on: after all types and the names before it
unfoldable pub name_at : ℕ → Metadata → ℕ → ℕ
name_at at d c = metadata_at at + length (metadata.bytes (record { status = d.status; types = d.types; names = take c d.names }))

-- the bytes of a name
abbrev pub name_bytes : Option (List ℕ) → List ℕ
name_bytes none = []
name_bytes (some bs) = bs

-- row k, from its length on: after the metadata, the row count and the rows before it
unfoldable pub row_at : ℕ → Table → ℕ → ℕ
row_at at b k = at + length (table.bytes (record { metadata = b.metadata; rows = take k b.rows }))

-- cell c of a row at a place: after the row's length and the cells before it
unfoldable pub cell_at : ℕ → List ℕ → List Value → ℕ → ℕ
cell_at at types cells c = at + length ((row types).bytes (take c cells))

-- the parameters of an invocation; parameter p: after the parameters before it
abbrev pub params_of : Message → List Param
params_of r = (the_invocation r.content).params

abbrev pub reparamed : Invocation → List Param → Invocation
reparamed v l = record { procedure = v.procedure; client = v.client; params = l }

unfoldable pub param_at : Message → ℕ → ℕ
param_at r p = length (message_bytes 3 (record { version = r.version; content = an_invocation (reparamed (the_invocation r.content) (take p (params_of r))) }))

-- what stands after a parameter's type
abbrev pub argument_at : ℕ → ℕ
argument_at at = at + 1

-- an array's first e elements, and element e of one in a parameter at a place: after the elements before it
abbrev pub cut_items : Items → ℕ → Items
cut_items (bytes none) e = bytes none
cut_items (bytes (some bs)) e = bytes (some (take e bs))
cut_items (values l) e = values (take e l)

unfoldable pub element_at : ℕ → ℕ → Items → ℕ → ℕ
element_at at t l e = at + length (param.bytes (record { type = t_array; argument = array t (cut_items l e) }))

-- the place after a string whose length field stands at a place
abbrev pub after_text : ℕ → Option (List ℕ) → ℕ
after_text at none = at + 4
after_text at (some bs) = at + 4 + length bs

-- the same of a string that is there or not
abbrev pub after_note : ℕ → Option (Option (List ℕ)) → ℕ
after_note at none = at
after_note at (some t) = after_text at t

-- the place after a number of k bytes that is there or not
abbrev pub after_number : ℕ → ℕ → Option ℕ → ℕ
after_number k at none = at
after_number k at (some n) = at + k

-- how many bytes the round trip of a response has
abbrev pub trip_size : Bool → ℕ
trip_size timed = pick timed 4 0
