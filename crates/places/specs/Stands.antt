-- A good value of a format stands at a place of a list: its bytes are there, after so many others.
use Rattle.std.specs.Prelude.{ℕ, ◌≡◌, List, ◌++◌, length}
use Rattle.format.specs.Format.{Format}

pub record Stands {A : Type 0} (f : Format A) (s : List ℕ) (at : ℕ) (a : A) : Type 0 where
  pub good : f.Good a
  pub before : List ℕ
  pub after : List ℕ
  pub whole : before ++ (f.bytes a ++ after) ≡ s
  pub start : length before ≡ at
