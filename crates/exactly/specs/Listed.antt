-- What a field list has for one thing, by the numbers of its fields and its indices, and the bytes that stand there; and when a shown value is what exactly
-- those bytes say. m is the message and fs its field list.
use Rattle.std.specs.Prelude.{ℕ, ◌+◌, ◌≡◌, Bool, ◌&&◌, ◌||◌, List, [], ◌∷◌, ◌++◌, length, take, drop, eqb}
use Rattle.format.specs.Result.{ok, pick}
use Rattle.format.specs.Number.{num_bytes}
use Rattle.format.specs.Format.{Index, Entry, piece}
use Rattle.format.specs.Value.{value, t_null, t_tinyint, t_array}
use Rattle.show.specs.declared.Cell.{Cell}
use Rattle.show.specs.Cells.{cell_of, type_of, value_of}
use Rattle.query.specs.Answers.{Given}

-- whether an entry is of one of two fields, at these indices
abbrev pub is_of : ℕ → ℕ → Index → Entry → Bool
is_of l b ix e = (eqb e.field l || eqb e.field b) && (eqb e.index.i ix.i && (eqb e.index.j ix.j && eqb e.index.k ix.k))

-- every entry of a list that is, in their order
unfoldable pub listed_for : ℕ → ℕ → Index → List Entry → List Entry
listed_for l b ix [] = []
listed_for l b ix (e ∷ es) = pick (is_of l b ix e) (e ∷ listed_for l b ix es) (listed_for l b ix es)

-- the bytes of a message at some entries, in their order
unfoldable pub bytes_at : List ℕ → List Entry → List ℕ
bytes_at m [] = []
bytes_at m (e ∷ es) = take e.size (drop e.at m) ++ bytes_at m es

-- where the first of them starts
abbrev pub start_of : List Entry → ℕ
start_of [] = 0
start_of (e ∷ es) = e.at

-- the bytes that are listed for one thing, of two fields or of one
abbrev pub bytes_for : ℕ → ℕ → Index → List ℕ → List Entry → List ℕ
bytes_for l b ix m fs = bytes_at m (listed_for l b ix fs)

abbrev pub field_bytes : ℕ → Index → List ℕ → List Entry → List ℕ
field_bytes n = bytes_for n n

-- The bytes bs say x, which shows a value that stands at a place of m; the fields of such a value's length and its body are l and b.
pub record Says (l b : ℕ) (m bs : List ℕ) (at : ℕ) (x : Cell) : Type 0 where
  -- they are the encoding of x's value
  pub encodes : bs ≡ (value l b (type_of x)).bytes (value_of m x)
  -- read by themselves they give that value, to the last of them
  pub reads : (value l b (type_of x)).read bs 0 ≡ ok (value_of m x, length bs)
  -- and that value, at that place, is shown as x
  pub shows : x ≡ cell_of (type_of x) at (value_of m x)

-- x reads as exactly the bytes that are listed for it in the fields l and b
pub record Reads (l b : ℕ) (ix : Index) (m : List ℕ) (fs : List Entry) (x : Cell) : Type 0 where
  -- what is listed are the fields of x's value: its body, or its length and, if that is longer than 0, its body
  pub entries : listed_for l b ix fs ≡ (value l b (type_of x)).fields ix (start_of (listed_for l b ix fs)) (value_of m x)
  pub says : Says l b m (bytes_for l b ix m fs) (start_of (listed_for l b ix fs)) x

-- the bytes of a null point: 360.0 twice
abbrev pub null_point : List ℕ
null_point = 0x40 ∷ 0x76 ∷ 0x80 ∷ 0 ∷ 0 ∷ 0 ∷ 0 ∷ 0 ∷ 0x40 ∷ 0x76 ∷ 0x80 ∷ 0 ∷ 0 ∷ 0 ∷ 0 ∷ 0 ∷ []

-- bytes that say x, a point, are these exactly if x is null
abbrev pub NullExactly : List ℕ → Cell → Type 0
NullExactly bs x = (x ≡ Cell.NullPoint → bs ≡ null_point) × (bs ≡ null_point → x ≡ Cell.NullPoint)

-- the cell at table t, row k and column c; its type is its column's
pub record CellReads (m : List ℕ) (fs : List Entry) (t k c : ℕ) (x : Cell) : Type 0 where
  pub type_byte : field_bytes 45 (record { i = t; j = 0; k = c }) m fs ≡ type_of x ∷ []
  pub cell : Reads 50 51 (record { i = t; j = k; k = c }) m fs x

-- parameter p
abbrev pub of_parameter : ℕ → Index
of_parameter p = record { i = p; j = 0; k = 0 }

-- its type
abbrev pub given_type : Given → ℕ
given_type Given.nothing = t_null
given_type (Given.value x) = type_of x
given_type (Given.list t n) = t_array

-- and what follows that: nothing for a null; a value; for an array the type of its elements and how many they are, in 4 bytes for bytes and in 2 for others
abbrev pub ArgumentReads : List ℕ → List Entry → Index → Given → Type 0
ArgumentReads m fs ix Given.nothing = (listed_for 25 26 ix fs ≡ []) × (listed_for 27 28 ix fs ≡ [])
ArgumentReads m fs ix (Given.value x) = Reads 27 28 ix m fs x
ArgumentReads m fs ix (Given.list t n) = (field_bytes 25 ix m fs ≡ t ∷ []) × (field_bytes 26 ix m fs ≡ num_bytes (pick (eqb t t_tinyint) 4 2) n)

pub record ParameterReads (m : List ℕ) (fs : List Entry) (p : ℕ) (g : Given) : Type 0 where
  pub type_byte : field_bytes 24 (of_parameter p) m fs ≡ given_type g ∷ []
  pub argument : ArgumentReads m fs (of_parameter p) g

-- a byte array is listed as one body, of which the element at e is a byte
pub record InBody (m : List ℕ) (fs : List Entry) (ix : Index) (e : ℕ) (x : Cell) : Type 0 where
  pub entries : listed_for 27 28 ix fs ≡ piece (length (bytes_for 27 28 ix m fs)) (start_of (listed_for 27 28 ix fs)) 28 ix
  pub says : Says 27 28 m (take 1 (drop e (bytes_for 27 28 ix m fs))) (start_of (listed_for 27 28 ix fs) + e) x

-- element e of the array that parameter p is; one that is no byte is listed by itself
pub record ElementReads (m : List ℕ) (fs : List Entry) (p e : ℕ) (x : Cell) : Type 0 where
  pub type_byte : field_bytes 25 (of_parameter p) m fs ≡ type_of x ∷ []
  pub in_body : type_of x ≡ t_tinyint → InBody m fs (of_parameter p) e x
  pub by_itself : (type_of x ≡ t_tinyint → ⊥) → Reads 27 28 (record { i = p; j = e; k = 0 }) m fs x

-- what is shown of two messages m and n, at places p and q, is the same value; and shown as the same, if the places are
pub record Alike (m n : List ℕ) (p q : ℕ) (x y : Cell) : Type 0 where
  pub type_same : type_of x ≡ type_of y
  pub value_same : value_of m x ≡ value_of n y
  pub shown_same : p ≡ q → x ≡ y
