-- What the walks inside are held to: where each goes, and that its task meets the fields that lie between. None says what the task does with them.
use Rattle.std.specs.Prelude.{◌≡◌, ℕ, ◌-◌, List}
use Rattle.format.specs.Result.{ok}
use Rattle.format.specs.Format.{Format, Index, piece}
use Rattle.tally.specs.declared.Tour.{Tour}
use Rattle.tally.specs.declared.Indices.{Indices}
use Rattle.tally.specs.Task.{State, doing, visited}

abbrev pub state_of : Tour → List ℕ → State
state_of t out = doing t.task out

abbrev pub index_of : Indices → Index
index_of ix = record { i = ix.i; j = ix.j; k = ix.k }

-- a tour goes on from its place to end, where its task meets what lies between as a field
pub record Stepped (field : ℕ) (ix : Indices) (tour : Tour) (out : List ℕ) (end : ℕ) (after : Tour) (written : List ℕ) : Type 0 where
  pub place : after.at ≡ end
  pub state : state_of after written ≡ visited (state_of tour out) (piece (end - tour.at) tour.at field (index_of ix))

-- where a value of the format f stands at the tour's place, the tour goes on to its end and its task meets the value's fields
pub record Walked {A : Type 0} (f : Format A) (s : List ℕ) (ix : Index) (tour : Tour) (out : List ℕ) (after : Tour) (written : List ℕ) : Type 0 where
  pub goes : (a : A) (next : ℕ) → f.read s tour.at ≡ ok (a, next)
      → (after.at ≡ next) × (state_of after written ≡ visited (state_of tour out) (f.fields ix tour.at a))
