-- A point is told as null exactly if it is null, and else by its bits: what is shown has them.
use Prim.Native.Nat.{ℕ, ◌/◌, ◌%◌, ◌^◌, ◌<◌}
use mathlib.Core.Path.{◌≡◌, refl, ◌∙◌, ap, ap₂}
use mathlib.Core.Bool.{Bool, true, false}
use mathlib.Core.List.{[], ◌∷◌}
use lib.Dec.{lit<}
use native.Mathlib.Nat.{div-add-mod', div-lt_iff_lt-mul, mod-lt}
use Rattle.format.specs.Result.{pick}
use Rattle.format.specs.Value.{t_point, is_null_point, point_fine}
use Rattle.show.specs.declared.Cell.{Cell}
use Rattle.show.specs.Cells.{position_cell, point_cell}
use Rattle.show.proofs.Floats.{kept}
use Rattle.show.proofs.Values.{point_numbers}
use Rattle.numbers.specs.Listed.{bits_numbers, cell_numbers}

pub null_told : (n : ℕ) → n < 256 ^ 16 → point_fine n ≡ true → cell_numbers (point_cell n) ≡ pick (is_null_point n) (t_point ∷ 2 ∷ 0 ∷ 0 ∷ []) (t_point ∷ 0 ∷ n / 2 ^ 64 ∷ n % 2 ^ 64 ∷ [])
null_told n small fine = by_test (is_null_point n) refl
  where
    by_test : (b : Bool) → is_null_point n ≡ b → cell_numbers (pick b Cell.NullPoint (position_cell n)) ≡ pick b (t_point ∷ 2 ∷ 0 ∷ 0 ∷ []) (t_point ∷ 0 ∷ n / 2 ^ 64 ∷ n % 2 ^ 64 ∷ [])
    by_test true e = refl
    by_test false e =
        let w = point_numbers n fine in
        ap₂ (bits_numbers t_point) (kept (n / 2 ^ 64) ((div-lt_iff_lt-mul (lit< tt)).1 small) w.0) (kept (n % 2 ^ 64) (mod-lt n (lit< tt)) w.1)
        ∙ ap (λ (b : Bool). pick b (t_point ∷ 2 ∷ 0 ∷ 0 ∷ []) (t_point ∷ 0 ∷ n / 2 ^ 64 ∷ n % 2 ^ 64 ∷ [])) (ap is_null_point (div-add-mod' n (2 ^ 64)) ∙ e)
