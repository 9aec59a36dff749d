-- A column's type by its number alone, type by type.
use Prim.Native.Nat.{ℕ}
use mathlib.Core.Path.{◌≡◌, refl}
use mathlib.Core.Bool.{Bool, true, false, not, ◌||◌}
use lib.Dec.{eqb}
use Rattle.format.specs.Result.{pick}
use Rattle.format.specs.Value.{is_column}

pub column_is : (t : ℕ)
    → ((eqb t 3 || (eqb t 4 || eqb t 5)) || (eqb t 6 || (eqb t 8 || eqb t 9))) || ((eqb t 11 || (eqb t 22 || eqb t 25)) || (eqb t 26 || (eqb t 27 || eqb t 27))) ≡ is_column t
column_is t = go (eqb t 3) (eqb t 4) (eqb t 5) (eqb t 6) (eqb t 8) (eqb t 9) (eqb t 11) (eqb t 22) (eqb t 25) (eqb t 26) (eqb t 27)
  where
    or_true : (b : Bool) → true ≡ b || true
    or_true true = refl
    or_true false = refl

    go : (e₃ e₄ e₅ e₆ e₈ e₉ e₁₁ e₂₂ e₂₅ e₂₆ e₂₇ : Bool)
        → ((e₃ || (e₄ || e₅)) || (e₆ || (e₈ || e₉))) || ((e₁₁ || (e₂₂ || e₂₅)) || (e₂₆ || (e₂₇ || e₂₇)))
        ≡ (e₉ || (e₂₅ || e₂₇)) || not (eqb (pick e₃ 1 (pick e₄ 2 (pick e₅ 4 (pick (e₆ || (e₈ || e₁₁)) 8 (pick (e₂₂ || e₂₆) 16 0))))) 0)
    go true _ _ _ _ e₉ _ _ e₂₅ _ e₂₇ = or_true (e₉ || (e₂₅ || e₂₇))
    go false true _ _ _ e₉ _ _ e₂₅ _ e₂₇ = or_true (e₉ || (e₂₅ || e₂₇))
    go false false true _ _ e₉ _ _ e₂₅ _ e₂₇ = or_true (e₉ || (e₂₅ || e₂₇))
    go false false false true _ e₉ _ _ e₂₅ _ e₂₇ = or_true (e₉ || (e₂₅ || e₂₇))
    go false false false false true e₉ _ _ e₂₅ _ e₂₇ = or_true (e₉ || (e₂₅ || e₂₇))
    go false false false false false true _ _ _ _ _ = refl
    go false false false false false false true _ e₂₅ _ e₂₇ = or_true (e₂₅ || e₂₇)
    go false false false false false false false true e₂₅ _ e₂₇ = or_true (e₂₅ || e₂₇)
    go false false false false false false false false true _ _ = refl
    go false false false false false false false false false true e₂₇ = or_true e₂₇
    go false false false false false false false false false false true = refl
    go false false false false false false false false false false false = refl
