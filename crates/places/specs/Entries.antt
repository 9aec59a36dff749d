-- The i-th of a list, and the values that a message has by number: a cell, a parameter's own value, an element of an array.
use Rattle.std.specs.Prelude.{ℕ, zero, suc, List, [], ◌∷◌, map}
use Rattle.std.proofs.Math.Option.{some, none}
use Rattle.format.specs.declared.Fault.TheVariants.{WireType, PastEnd}
use Rattle.format.specs.Result.{Res, ok, no, bind}
use Rattle.format.specs.Value.{Value, fixed}
use Rattle.format.specs.Message.{Table, Items, bytes, values, Argument, null, one, array}
use Rattle.places.specs.Places.{column_type_at, row_at, cell_at, argument_at, element_at}

module _ {A : Type 0} where
  -- the i-th of a list
  abbrev pub entry : List A → ℕ → Res A
  entry [] i = no PastEnd 0
  entry (a ∷ l) zero = ok a
  entry (a ∷ l) (suc i) = entry l i

-- a value: its type and the place of that, its own place, and what it is
pub record Here : Type 0 where
  pub type : ℕ
  pub type_at : ℕ
  pub at : ℕ
  pub value : Value

-- the cell at row k and column c of a table at a place
abbrev pub cell_here : ℕ → Table → ℕ → ℕ → Res Here
cell_here at b k c = bind (entry b.rows k) (λ cells. bind (entry b.metadata.types c) (λ t. bind (entry cells c) (λ v.
    ok (record { type = t; type_at = column_type_at at b.metadata c; at = cell_at (row_at at b k) b.metadata.types cells c; value = v }))))

-- the value of a parameter that is one; any other is refused at its type
abbrev pub value_here : ℕ → ℕ → Argument → Res Here
value_here at t (one v) = ok (record { type = t; type_at = at; at = argument_at at; value = v })
value_here at t null = no WireType at
value_here at t (array e l) = no WireType at

-- the elements of an array, bytes as tinyints
abbrev pub values_in : Items → List Value
values_in (bytes none) = []
values_in (bytes (some bs)) = map fixed bs
values_in (values l) = l

-- element e of an array; the parameter of any other type is refused at that
abbrev pub element_of : ℕ → Argument → ℕ → Res Here
element_of at null e = no WireType at
element_of at (one v) e = no WireType at
element_of at (array t l) e = bind (entry (values_in l) e) (λ v. ok (record { type = t; type_at = argument_at at; at = element_at at t l e; value = v }))
