-- A value that is shown and written again is the same value: a step with the cell, over the message that it was read from, is the step with the value, and
-- the value has no fault.
use Prim.Native.Nat.{ℕ}
use mathlib.Core.Path.{◌≡◌, ap₂, ◌∙◌}
use mathlib.Core.Bool.{true}
use mathlib.Core.List.{List}
use Rattle.format.specs.Result.{ok}
use Rattle.format.specs.Number.{Bytes}
use Rattle.format.specs.Format.{fine}
use Rattle.format.specs.Value.{Value, fixed, value, is_column}
use Rattle.format.proofs.Formats.{lawful_value}
use Rattle.show.specs.Cells.{cell_of, type_of, value_of}
use Rattle.show.proofs.Kept.{fixed_kept, read_kept}
use Rattle.steps.specs.Arguments.{value_fault}
use Rattle.steps.specs.Steps.{Step}
use Rattle.steps.proofs.Faults.{value_fine}

module _ (l b t at : ℕ) (is : is_column t ≡ true) (m : List ℕ) where
  -- of a good value of a fixed size, whatever the message
  pub good_again : (n : ℕ) → (value l b t).Good (fixed n) → (s : ℕ → Value → Step) → let c = cell_of t at (fixed n) in s (type_of c) (value_of m c) ≡ s t (fixed n)
  good_again n g s = let k = fixed_kept m at l b t n is g in ap₂ s k.1 k.0

  -- and of any value that was read from the message: text, binary values and nulls too
  module _ (bytes : Bytes m) (v : Value) (next : ℕ) (e : (value l b t).read m at ≡ ok (v, next)) where
    pub read_again : (s : ℕ → Value → Step) → let c = cell_of t at v in s (type_of c) (value_of m c) ≡ s t v
    read_again s = let k = read_kept m bytes at l b t v next is e in ap₂ s k.1 k.0

    pub again_fine : (p : ℕ) → let c = cell_of t at v in value_fault p (type_of c) (value_of m c) ≡ fine
    again_fine p = let k = read_kept m bytes at l b t v next is e in ap₂ (value_fault p) k.1 k.0 ∙ value_fine p l b t v is ((lawful_value l b t).sound m bytes at v next e).0
