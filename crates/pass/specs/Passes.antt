-- What it is to pass a thing: to come where its reading ends, without its rules.
use Rattle.std.specs.Prelude.{ℕ, ◌≡◌, List}
use Rattle.format.specs.Result.{ok}
use Rattle.format.specs.Format.{Format}

-- where a value of the format f stands at a place, r is where it ends; nothing is said of r where none does
pub record Passes {A : Type 0} (f : Format A) (s : List ℕ) (at r : ℕ) : Type 0 where
  pub ends : (v : A) (next : ℕ) → f.read s at ≡ ok (v, next) → r ≡ next
