-- What it is to answer as before: alike, but for a column count that a table could not have then and can have now.
use Rattle.std.specs.Prelude.{ℕ, ◌+◌, ◌<◌, ◌≤◌, ◌≡◌, List, length}
use Rattle.format.specs.declared.Fault.TheVariants.{Limit}
use Rattle.format.specs.Result.{Res, no}
use Rattle.format.specs.Number.{num_at}
use Rattle.format.specs.Message.{most_columns}
use Rattle.earlier.specs.Before.{most_before}

-- such a count stands at a place
pub record Wider (s : List ℕ) (p : ℕ) : Type 0 where
  pub fits : p + 2 ≤ length s
  pub above : most_before < num_at 2 s p
  pub below : num_at 2 s p ≤ most_columns

-- what a reading gave, x, is what it gives, y; or it was the refusal of such a count
pub data Kept {A : Type 0} (s : List ℕ) (x y : Res A) : Type 0 where
  same : x ≡ y → Kept s x y
  wider : (p : ℕ) → Wider s p → x ≡ no Limit p → Kept s x y
