-- How a value of a wire type is shown, type by type.
use Rattle.format.specs.declared.Refusal.{Refusal}
use Rattle.std.specs.Prelude.{Result, Ok}
use Prim.Native.Nat.{ℕ, ◌+◌, ◌*◌, ◌/◌, ◌%◌, ◌^◌, ◌<◌, ◌≤◌}
use mathlib.Core.Path.{◌≡◌, refl, sym, ◌∙◌, ap}
use mathlib.Core.Bool.{Bool, true, false}
use mathlib.Core.List.{List}
use mathlib.Core.Logic.{◌⊎◌, ⊎_elim}
use lib.Dec.{eqb, lit≤}
use lib.Arith.{digits_div, digits_mod}
use lib.Ieee.{binary64, of_bits, nan_bits}
use native.Mathlib.Omega.{arith}
use borrow.Author.Tests.{leb-true, eqb-true}
use Rattle.format.specs.declared.Fault.TheVariants.{Decimal, Point}
use Rattle.format.specs.Result.{Res, ok, no, bind, pick}
use Rattle.format.specs.Format.{Format, number, ruled, into}
use Rattle.format.specs.Value.{Value, fixed, body, number_of, body_of, value, string, anything, rule_of, most_bytes, is_counted, width_of, fixed_fine, decimal_fine, degrees360, is_position, is_null_point, point_fine, within}
use Rattle.format.proofs.Results.{and_true_both, or_true, bound}
use Rattle.format.proofs.Texts.{counted_unruled}
use Rattle.scan.proofs.Steps.{ruled_any}
use Rattle.scan.proofs.Values.{value_fields}
use Rattle.show.specs.declared.Cell.{Cell}
use Rattle.scan.specs.Signed.{signed}
use Rattle.show.specs.Cells.{plain_cell, decimal_cell, position_cell, point_cell, fixed_cell, body_cell, cell_of, unruled, shown_as}
use Rattle.show.proofs.Floats.{no_nan}

-- a reading put into a value is shown as the value is
module _ {A B : Type 0} (to : A → B) (from : B → A) (f : Format A) (s : List ℕ) (at : ℕ) (show : B → Cell) where
  into_shown : shown_as show ((into to from f).read s at) ≡ shown_as (λ a. show (to a)) (f.read s at)
  unfolding into
  into_shown = same (f.read s at)
    where
      same : (r : Res (A × ℕ)) → shown_as show (bind r (λ p. ok (to p.0, p.1))) ≡ shown_as (λ a. show (to a)) r
      same (ok p) = refl
      same (no g p) = refl

-- the types with no rule, and their widths; of a type that is none, 0 bytes
abbrev pub Plain : ℕ → ℕ → Type 0
Plain t k = (width_of t ≡ k) × (is_counted t ≡ false) × (eqb t 22 ≡ false) × (eqb t 26 ≡ false)

pub plain_key : {t key : ℕ} (k : ℕ) → t ≡ key → Plain key k → Plain t k
plain_key k e p = rw e p

module _ (s : List ℕ) (at : ℕ) where
  abbrev Shows : ℕ → Result (Cell × ℕ) Refusal → Type 0
  Shows t x = x ≡ shown_as (cell_of t at) ((unruled t).read s at)

  pub decimal_shows : (t : ℕ) → t ≡ 22 → Shows t (shown_as decimal_cell ((ruled decimal_fine Decimal (number 16 0)).read s at))
  unfolding unruled value
  decimal_shows t e = rw e (sym (into_shown fixed number_of (ruled decimal_fine Decimal (number 16 0)) s at (cell_of 22 at)))

  pub point_shows : (t : ℕ) → t ≡ 26 → Shows t (shown_as point_cell ((ruled point_fine Point (number 16 0)).read s at))
  unfolding unruled value
  point_shows t e = rw e (sym (into_shown fixed number_of (ruled point_fine Point (number 16 0)) s at (cell_of 26 at)))

  pub counted_shows : (t : ℕ) → (t ≡ 9) ⊎ ((t ≡ 25) ⊎ (t ≡ 27)) → Shows t (shown_as (body_cell t at) ((string true anything 0 0).read s at))
  unfolding unruled
  counted_shows t is =
      ⊎_elim (λ e. rw e (go 9)) (λ w. ⊎_elim (λ e. rw e (go 25)) (λ e. rw e (go 27)) w) is
    where
      go : (t : ℕ) → shown_as (body_cell t at) ((string true anything 0 0).read s at) ≡ shown_as (cell_of t at) ((into body body_of (string true anything 0 0)).read s at)
      go t = sym (into_shown body body_of (string true anything 0 0) s at (cell_of t at))

  pub plain_shows : (t k : ℕ) → Plain t k → Shows t (shown_as (plain_cell t) ((number k 0).read s at))
  unfolding unruled value
  plain_shows t k p =
      let fault = pick (eqb t 22) Decimal Point in
      let free = ruled_any (fixed_fine t) fault (number k 0) s at (λ n. simp (p.2, p.3)) in
      let cells : (n : ℕ) → fixed_cell t n ≡ plain_cell t n = λ n. simp (p.2, p.3) in
      sym (rw (p.1, p.0) (into_shown fixed number_of (ruled (fixed_fine t) fault (number k 0)) s at (cell_of t at) ∙ ap (shown_as (fixed_cell t)) free ∙ same_shown cells ((number k 0).read s at)))
    where
      same_shown : {f g : ℕ → Cell} → ((n : ℕ) → f n ≡ g n) → (r : Res (ℕ × ℕ)) → shown_as f r ≡ shown_as g r
      same_shown all (ok p) = ap (λ (c : Cell). Ok (c, p.1)) (all p.0)
      same_shown all (no f p) = refl

  -- a value that was read by its rule is read without it; the fields' numbers play no part
  pub unruled_reads : (l b t : ℕ) {w : Value × ℕ} → (value l b t).read s at ≡ ok w → (unruled t).read s at ≡ ok w
  unfolding unruled value into
  unruled_reads l b t {w} e = by_count (is_counted t) refl (sym (value_fields s at l b t) ∙ e)
    where
      by_count : (c : Bool) → is_counted t ≡ c → (value 0 0 t).read s at ≡ ok w → (unruled t).read s at ≡ ok w
      by_count false is e = rw is (rw is at e)
      by_count true is e =
          let r = bound ((string true (rule_of t) 0 0).read s at) (rw is at e) in
          rw (is, counted_unruled true most_bytes (rule_of t) 0 0 0 0 s at r.0 r.1) r.2

-- a number of 16 bytes by its halves
module _ (hi lo : ℕ) (small : lo < 2 ^ 64) where
  pub decimal_halves : decimal_cell (hi * 2 ^ 64 + lo) ≡ Cell.Decimal (signed 8 hi) lo
  decimal_halves = rw (digits_div hi small, digits_mod hi small)

  pub position_halves : is_null_point (hi * 2 ^ 64 + lo) ≡ false → point_cell (hi * 2 ^ 64 + lo) ≡ Cell.Point (of_bits binary64 hi) (of_bits binary64 lo)
  position_halves other =
      ap (λ (b : Bool). pick b Cell.NullPoint (position_cell (hi * 2 ^ 64 + lo))) other ∙ rw (digits_div hi small, digits_mod hi small)

pub null_cell_lem : (n : ℕ) → is_null_point n ≡ true → point_cell n ≡ Cell.NullPoint
null_cell_lem n null = ap (λ (b : Bool). pick b Cell.NullPoint (position_cell n)) null

-- the numbers of a null point
pub null_numbers : (n : ℕ) → is_null_point n ≡ true → (n / 2 ^ 64 ≡ degrees360) × (n % 2 ^ 64 ≡ degrees360)
null_numbers n null =
    let w = and_true_both (eqb (n / 2 ^ 64) degrees360) (eqb (n % 2 ^ 64) degrees360) null in
    (eqb-true _ _ w.0, eqb-true _ _ w.1)

-- what lies within a range is a number
within_number : (most b : ℕ) → most ≤ 0x7ff0000000000000 → within most b ≡ true → nan_bits binary64 b ≡ false
within_number most b small is = let low : b % 2 ^ 63 ≤ most = leb-true _ _ is in no_nan b (omega arith)

-- the halves of a point are numbers
pub point_numbers : (n : ℕ) → point_fine n ≡ true → (nan_bits binary64 (n / 2 ^ 64) ≡ false) × (nan_bits binary64 (n % 2 ^ 64) ≡ false)
point_numbers n e = ⊎_elim position null (or_true (is_position n) (is_null_point n) e)
  where
    Numbers : Type 0
    Numbers = (nan_bits binary64 (n / 2 ^ 64) ≡ false) × (nan_bits binary64 (n % 2 ^ 64) ≡ false)

    position : is_position n ≡ true → Numbers
    position is =
        let w = and_true_both (within 0x4066800000000000 (n / 2 ^ 64)) (within 0x4056800000000000 (n % 2 ^ 64)) is in
        (within_number _ (n / 2 ^ 64) (lit≤ tt) w.0, within_number _ (n % 2 ^ 64) (lit≤ tt) w.1)

    null : is_null_point n ≡ true → Numbers
    null is = let w = null_numbers n is in rw (w.0, w.1) (no_nan degrees360 (lit≤ tt), no_nan degrees360 (lit≤ tt))

pub halves_numbers : (x y : ℕ) → y < 2 ^ 64 → point_fine (x * 2 ^ 64 + y) ≡ true → (nan_bits binary64 x ≡ false) × (nan_bits binary64 y ≡ false)
halves_numbers x y small e = rw (digits_div x small, digits_mod x small) at (point_numbers (x * 2 ^ 64 + y) e)
