-- What a value of a wire type is shown as, and which value a shown one is.
use Rattle.format.specs.declared.Refusal.{Refusal}
use Rattle.std.specs.Prelude.{ℕ, ◌+◌, ◌*◌, ◌/◌, ◌%◌, ◌^◌, List, true, length, take, drop, eqb, Result, Ok, Err}
use Rattle.std.proofs.Math.Option.{Option, some, none}
use Rattle.std.specs.Float.{binary64}
use Rattle.std.specs.Float.Ieee.{of_bits, to_bits, nan_bits}
use Rattle.format.specs.Result.{Res, ok, no, pick}
use Rattle.format.specs.Format.{Format, into}
use Rattle.format.specs.Value.{Value, fixed, body, body_of, value, string, anything, is_counted, t_tinyint, t_smallint, t_integer, t_bigint, t_float, t_string, t_timestamp, t_decimal, t_varbinary, t_point, t_geography, degrees360, is_null_point}
use Rattle.scan.specs.Shown.{refusal}
use Rattle.scan.specs.Signed.{signed, unsigned}
use Rattle.show.specs.declared.Cell.{Cell}
use Rattle.show.specs.declared.Raw.{Raw}

-- a float is the number that its bits are; a NaN, which is none, keeps its bits
abbrev pub float_cell : ℕ → Cell
float_cell bits = pick (nan_bits binary64 bits) (Cell.FloatBits bits) (Cell.Float (of_bits binary64 bits))

-- a value of at most 8 bytes, by its type and its number. What is of no type is shown as a bigint; no value is
unfoldable pub plain_cell : ℕ → ℕ → Cell
plain_cell t n =
    pick (eqb t t_tinyint) (Cell.Tinyint (signed 1 n))
    (pick (eqb t t_smallint) (Cell.Smallint (signed 2 n))
    (pick (eqb t t_integer) (Cell.Integer (signed 4 n))
    (pick (eqb t t_float) (float_cell n)
    (pick (eqb t t_timestamp) (Cell.Timestamp (signed 8 n))
    (Cell.Bigint (signed 8 n))))))

-- a decimal is its upper 64 bits, with the sign, and its lower 64; a point is two floats, or null
abbrev pub decimal_cell : ℕ → Cell
decimal_cell n = Cell.Decimal (signed 8 (n / 2 ^ 64)) (n % 2 ^ 64)

abbrev pub position_cell : ℕ → Cell
position_cell n = Cell.Point (of_bits binary64 (n / 2 ^ 64)) (of_bits binary64 (n % 2 ^ 64))

abbrev pub point_cell : ℕ → Cell
point_cell n = pick (is_null_point n) Cell.NullPoint (position_cell n)

-- a value of a fixed size
abbrev pub fixed_cell : ℕ → ℕ → Cell
fixed_cell t n = pick (eqb t t_decimal) (decimal_cell n) (pick (eqb t t_point) (point_cell n) (plain_cell t n))

-- a counted value: where its bytes start and how many they are, or null
abbrev pub part_cell : ℕ → ℕ → ℕ → Cell
part_cell t start size = pick (eqb t t_string) (Cell.Text start size) (pick (eqb t t_varbinary) (Cell.Binary start size) (Cell.Geography start size))

abbrev pub null_cell : ℕ → Cell
null_cell t = pick (eqb t t_string) Cell.NullText (pick (eqb t t_varbinary) Cell.NullBinary Cell.NullGeography)

-- its length field stands at a place, and its bytes after that
abbrev pub body_cell : ℕ → ℕ → Option (List ℕ) → Cell
body_cell t at none = null_cell t
body_cell t at (some bs) = part_cell t (at + 4) (length bs)

-- a value of a type that stands at a place, shown
abbrev pub cell_of : ℕ → ℕ → Value → Cell
cell_of t at (fixed n) = fixed_cell t n
cell_of t at (body b) = body_cell t at b

-- a value, whatever its bytes if it has a length of its own: for one that stands in an accepted message
unfoldable pub unruled : ℕ → Format Value
unruled t = pick (is_counted t) (into body body_of (string true anything 0 0)) (value 0 0 t)

module _ {A : Type 0} where
  -- the answer for what a reading gives
  abbrev pub shown_as : (A → Cell) → Res (A × ℕ) → Result (Cell × ℕ) Refusal
  shown_as show (ok p) = Ok (show p.0, p.1)
  shown_as show (no f p) = Err (refusal f p)

-- what a shown value is on the wire: its type, then its upper and lower 64 bits, or where its bytes start and how many they are, or that it is null.
-- A NaN that is given as a number has the quiet pattern
abbrev pub raw_of : Cell → Raw
raw_of (Cell.Tinyint z) = Raw.Bits t_tinyint 0 (unsigned 1 z)
raw_of (Cell.Smallint z) = Raw.Bits t_smallint 0 (unsigned 2 z)
raw_of (Cell.Integer z) = Raw.Bits t_integer 0 (unsigned 4 z)
raw_of (Cell.Bigint z) = Raw.Bits t_bigint 0 (unsigned 8 z)
raw_of (Cell.Timestamp z) = Raw.Bits t_timestamp 0 (unsigned 8 z)
raw_of (Cell.Float x) = Raw.Bits t_float 0 (to_bits binary64 x)
raw_of (Cell.FloatBits bits) = Raw.Bits t_float 0 bits
raw_of (Cell.Decimal upper lower) = Raw.Bits t_decimal (unsigned 8 upper) lower
raw_of (Cell.Point longitude latitude) = Raw.Bits t_point (to_bits binary64 longitude) (to_bits binary64 latitude)
raw_of Cell.NullPoint = Raw.Bits t_point degrees360 degrees360
raw_of (Cell.Text start size) = Raw.Body t_string start size
raw_of Cell.NullText = Raw.Null t_string
raw_of (Cell.Binary start size) = Raw.Body t_varbinary start size
raw_of Cell.NullBinary = Raw.Null t_varbinary
raw_of (Cell.Geography start size) = Raw.Body t_geography start size
raw_of Cell.NullGeography = Raw.Null t_geography

-- its type, and the value that it is; m is the list that text and bytes stand in
abbrev pub type_in : Raw → ℕ
type_in (Raw.Bits t upper lower) = t
type_in (Raw.Body t start size) = t
type_in (Raw.Null t) = t

abbrev pub value_in : List ℕ → Raw → Value
value_in m (Raw.Bits t upper lower) = fixed (upper * 2 ^ 64 + lower)
value_in m (Raw.Body t start size) = body (some (take size (drop start m)))
value_in m (Raw.Null t) = body none

abbrev pub type_of : Cell → ℕ
type_of c = type_in (raw_of c)

abbrev pub value_of : List ℕ → Cell → Value
value_of m c = value_in m (raw_of c)
