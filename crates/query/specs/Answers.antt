-- What each question about a message is answered with: the message's own refusal, then the question's. `ask..` are the questions and `told..` what
-- the code's answers say: the paper's fault and place (Result.antt has its number), or the values.
use Rattle.std.specs.Prelude.{ℕ, ◌+◌, Bool, true, false, ◌&&◌, List, [], ◌∷◌, ◌≡◌, length, eqb, Result, Ok, Err, Option as Maybe, Some, None}
use Rattle.std.proofs.Math.Option.{Option, some, none}
use Rattle.std.specs.Borrow.{Bor}
use Rattle.format.specs.declared.Refusal.{Refusal}
use Rattle.format.specs.declared.Fault.TheVariants.{WireType, NoColumn}
use Rattle.format.specs.Result.{Res, ok, no, bind, pick}
use Rattle.format.specs.Value.{value as value_format}
use Rattle.format.specs.Message.{Table, table, Argument, null, one, array, Param, Message, read_message, response_layout}
use Rattle.show.specs.declared.Cell.{Cell}
use Rattle.show.specs.declared.Raw.{Raw}
use Rattle.show.specs.Cells.{cell_of, raw_of}
use Rattle.show.specs.Parts.{IsPart}
use Rattle.places.specs.Places.{tables_of, table_at, column_type_at, name_at, name_bytes, row_at, params_of, param_at, argument_at}
use Rattle.places.specs.Entries.{entry, Here, cell_here, value_here, values_in, element_of}
use Rattle.query.specs.declared.TableLayout.{TableLayout}
use Rattle.query.specs.declared.ColumnLayout.{ColumnLayout}
use Rattle.query.specs.declared.Argument.{Argument as Argued}
use Rattle.query.specs.declared.Argument.TheVariants.{Null, One, Array}

module _ {A : Type 0} where
  -- what is there, if anything is
  abbrev pub perhaps : Res A → Option A
  perhaps (ok a) = some a
  perhaps (no f p) = none

module _ {A B : Type 0} where
  -- what is asked of the i-th of a message's parts, by its place and what it is
  abbrev pub of_part : ℕ → (Message → List B) → (Message → ℕ → ℕ) → List ℕ → ℕ → (ℕ → B → Res A) → Res A
  of_part kind parts place m i ask = bind (read_message kind m) (λ r. bind (entry (parts r) i) (λ b. ask (place r i) b))

module _ {A : Type 0} where
  -- of table t of a response with its round trip or without, and of parameter p of an invocation
  abbrev pub of_table : Bool → List ℕ → ℕ → (ℕ → Table → Res A) → Res A
  of_table timed = of_part (response_layout timed) tables_of (table_at timed)

  abbrev pub of_param : List ℕ → ℕ → (ℕ → Param → Res A) → Res A
  of_param = of_part 3 params_of param_at

-- ---- what stands there
-- a table at a place: what it says of itself, and where its parts stand
abbrev pub layout_of : ℕ → Table → TableLayout
layout_of at b = record {
  status = b.metadata.status;
  columns = length b.metadata.types;
  rows = length b.rows;
  at = at;
  «end» = at + length (table.bytes b);
  types = column_type_at at b.metadata 0;
  names = name_at at b.metadata 0;
  first_row = row_at at b 0;
}

-- whether two lists have the same bytes, and whether a name has these
unfoldable pub same : List ℕ → List ℕ → Bool
same [] [] = true
same [] (y ∷ ys) = false
same (x ∷ xs) [] = false
same (x ∷ xs) (y ∷ ys) = eqb x y && same xs ys

abbrev pub is_named : List ℕ → Option (List ℕ) → Bool
is_named name none = false
is_named name (some bs) = same bs name

-- the first column of a name; the first name given is that of column i
unfoldable pub first_named : List ℕ → List (Option (List ℕ)) → ℕ → Res ℕ
first_named name [] i = no NoColumn 0
first_named name (n ∷ ns) i = pick (is_named name n) (ok i) (first_named name ns (i + 1))

-- a column at its position: its type and that one's place, and where its name's bytes start and how many they are
abbrev pub column_of : ℕ → Table → ℕ → Res ColumnLayout
column_of at b c = bind (entry b.metadata.types c) (λ t. bind (entry b.metadata.names c) (λ n.
    ok (record { wire_type = t; type_at = column_type_at at b.metadata c; name = name_at at b.metadata c + 4; name_length = length (name_bytes n) })))

-- the first column of a name, with its position
abbrev pub named_of : ℕ → Table → List ℕ → Res (ℕ × ColumnLayout)
named_of at b name = bind (first_named name b.metadata.names 0) (λ i. bind (column_of at b i) (λ l. ok (i, l)))

abbrev pub shown_here : Here → Cell
shown_here h = cell_of h.type h.at h.value

-- the part of the message that a text or binary value is, or null; a value of another type is refused at that type's place
abbrev pub raw_part : ℕ → Raw → Res (Option (ℕ × ℕ))
raw_part type_at (Raw.Body t start size) = ok (some (start, size))
raw_part type_at (Raw.Null t) = ok none
raw_part type_at (Raw.Bits t upper lower) = no WireType type_at

abbrev pub part_of : ℕ → Cell → Res (Option (ℕ × ℕ))
part_of type_at c = raw_part type_at (raw_of c)

-- the part of the message that is listed for a cell: of a text or binary one its length field and its body
abbrev pub place_here : Here → ℕ × ℕ
place_here h = (h.at, length ((value_format 50 51 h.type).bytes h.value))

-- where the part that an answer tells starts and how long it is; for null and a refusal, the empty one at the message's start
abbrev pub span_in : Res (Option (ℕ × ℕ)) → ℕ × ℕ
span_in (ok (some p)) = p
span_in (ok none) = (0, 0)
span_in (no f p) = (0, 0)

-- a slice is that part of the message itself
abbrev pub IsTold : Bor (List ℕ) → Res (Option (ℕ × ℕ)) → Bor (List ℕ) → Type 0
IsTold m span part = IsPart m (span_in span).0 (span_in span).1 part

-- a parameter: null, a value, or an array, by its elements' type and how many they are
pub data Given : Type 0 where
  nothing : Given
  value : Cell → Given
  list : ℕ → ℕ → Given

-- a parameter of a type, at a place
abbrev pub given_of : ℕ → ℕ → Argument → Given
given_of at t null = Given.nothing
given_of at t (one v) = Given.value (cell_of t (argument_at at) v)
given_of at t (array e l) = Given.list e (length (values_in l))

-- ---- the questions
abbrev pub ask_tables : List ℕ → Res ℕ
ask_tables m = bind (read_message 4 m) (λ p. ok (length (tables_of p)))

abbrev pub ask_table : List ℕ → ℕ → Res TableLayout
ask_table m t = of_table true m t (λ at b. ok (layout_of at b))

abbrev pub ask_column : List ℕ → ℕ → ℕ → Res ColumnLayout
ask_column m t c = of_table true m t (λ at b. column_of at b c)

abbrev pub ask_column_name : List ℕ → ℕ → ℕ → Res (Option (ℕ × ℕ))
ask_column_name m t c = bind (ask_column m t c) (λ l. ok (some (l.name, l.name_length)))

abbrev pub ask_placed : List ℕ → ℕ → ℕ → Res (Option ColumnLayout)
ask_placed m t c = of_table true m t (λ at b. ok (perhaps (column_of at b c)))

abbrev pub ask_position : List ℕ → ℕ → List ℕ → Res ℕ
ask_position m t name = of_table true m t (λ at b. first_named name b.metadata.names 0)

abbrev pub ask_named : List ℕ → ℕ → List ℕ → Res (ℕ × ColumnLayout)
ask_named m t name = of_table true m t (λ at b. named_of at b name)

abbrev pub ask_cell : List ℕ → ℕ → ℕ → ℕ → Res Cell
ask_cell m t k c = of_table true m t (λ at b. bind (cell_here at b k c) (λ h. ok (shown_here h)))

abbrev pub ask_cell_span : List ℕ → ℕ → ℕ → ℕ → Res (Option (ℕ × ℕ))
ask_cell_span m t k c = of_table true m t (λ at b. bind (cell_here at b k c) (λ h. part_of h.type_at (shown_here h)))

abbrev pub ask_cell_place : List ℕ → ℕ → ℕ → ℕ → Res (Option (ℕ × ℕ))
ask_cell_place m t k c = of_table true m t (λ at b. bind (cell_here at b k c) (λ h. ok (some (place_here h))))

abbrev pub ask_parameter : List ℕ → ℕ → Res Given
ask_parameter m p = of_param m p (λ at q. ok (given_of at q.type q.argument))

abbrev pub ask_parameter_span : List ℕ → ℕ → Res (Option (ℕ × ℕ))
ask_parameter_span m p = of_param m p (λ at q. bind (value_here at q.type q.argument) (λ h. part_of h.type_at (shown_here h)))

abbrev pub ask_element : List ℕ → ℕ → ℕ → Res Cell
ask_element m p e = of_param m p (λ at q. bind (element_of at q.argument e) (λ h. ok (shown_here h)))

abbrev pub ask_element_span : List ℕ → ℕ → ℕ → Res (Option (ℕ × ℕ))
ask_element_span m p e = of_param m p (λ at q. bind (element_of at q.argument e) (λ h. part_of h.type_at (shown_here h)))

-- ---- the answers
module _ {A : Type 0} where
  -- what an answer says whose value may be missing
  abbrev pub told_maybe : Result (Maybe A) Refusal → Res (Option A)
  told_maybe (Ok (Some a)) = ok (some a)
  told_maybe (Ok None) = ok none
  told_maybe (Err r) = no r.fault r.place

-- a column's layout, if its table has the column
abbrev pub told_placed : Result (Maybe ColumnLayout) Refusal → Res (Option ColumnLayout)
told_placed = told_maybe

-- where a part starts and how long it is, or null
abbrev pub Part : Type 0
Part = Result (Maybe (ℕ × ℕ)) Refusal

abbrev pub told_part : Part → Res (Option (ℕ × ℕ))
told_part = told_maybe

abbrev pub given : Argued → Given
given Null = Given.nothing
given (One c) = Given.value c
given (Array t n) = Given.list t n

abbrev pub told_argument : Result Argued Refusal → Res Given
told_argument (Ok a) = ok (given a)
told_argument (Err r) = no r.fault r.place

-- a text or binary value handed back: its answer says its span, and the slice beside it is that part of the message itself
pub record Handed (m : Bor (List ℕ)) (span : Res (Option (ℕ × ℕ))) (answer : Part) (part : Bor (List ℕ)) : Type 0 where
  pub says : told_part answer ≡ span
  pub itself : IsTold m span part
