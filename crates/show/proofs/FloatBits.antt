-- A float that equals itself is no NaN, so its bits may be asked; one that does not is the NaN, which has the quiet pattern.
use Prim.Native.Nat.{ℕ, ◌*◌}
use mathlib.Core.Path.{◌≡◌, refl, sym, ap, ◌∙◌}
use mathlib.Core.Bool.{Bool, true, false, ◌&&◌, ◌||◌, not, beq, true≢false}
use lib.Dec.{T, eqb, eqb_refl}
use lib.Ieee.{Float, nan, inf, fin, binary64, up, down, eq, is_nan, to_bits}
use lib.Ieee.Bits.{is_true}

pub equal_itself : (x : Float) → eq x x ≡ true → T (not (is_nan x))
unfolding eq is_nan
equal_itself nan e = absurd (true≢false (sym e))
equal_itself (inf s) e = tt
equal_itself (fin s m k) e = tt

pub nan_bits : (x : Float) → eq x x ≡ false → to_bits binary64 x ≡ 0x7ff8000000000000
unfolding eq to_bits
nan_bits nan e = refl
nan_bits (inf true) e = absurd (true≢false e)
nan_bits (inf false) e = absurd (true≢false e)
nan_bits (fin s m k) e = absurd (true≢false (sym (level_itself s (m * up k * down k)) ∙ e))
  where
    level_itself : (s : Bool) (a : ℕ) → (eqb a a && (beq s s || eqb a 0)) ≡ true
    level_itself true a = ap (λ (z : Bool). z && true) (is_true (eqb a a) (eqb_refl a))
    level_itself false a = ap (λ (z : Bool). z && true) (is_true (eqb a a) (eqb_refl a))
