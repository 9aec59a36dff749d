-- What is shown says the value, every bit of it: the cell of a value gives the value back, and its type.
use Rattle.format.specs.declared.Refusal.{Refusal}
use Rattle.std.specs.Prelude.{Result}
use Prim.Native.Nat.{ℕ, ◌+◌, ◌*◌, ◌/◌, ◌%◌, ◌^◌, ◌<◌}
use mathlib.Core.Path.{◌≡◌, refl, sym, ◌∙◌, ap, ap₂}
use mathlib.Core.Bool.{Bool, true, false, true≢false}
use mathlib.Core.List.{List, []}
use mathlib.Core.Option.{Option, some, none}
use lib.ListN.{length, take, drop}
use lib.Dec.{eqb, lit<}
use lib.Ieee.{binary64, of_bits, to_bits, nan_bits}
use native.Mathlib.Omega.{arith}
use native.Mathlib.Nat.{zero-add, div-add-mod', div-lt_iff_lt-mul}
use borrow.Author.Tests.{eqb-true}
use Rattle.format.specs.Result.{Res, ok, no, bind, pick, told}
use Rattle.format.specs.Number.{Bytes}
use Rattle.format.specs.Format.{Verdict, number, ruled, into, counted}
use Rattle.format.specs.Text.{utf8}
use Rattle.format.specs.Value.{Value, fixed, body, number_of, body_of, string, value, is_column, most_bytes, anything, not_empty, degrees360, is_null_point, point_fine}
use Rattle.format.proofs.Results.{bound, ok_same}
use Rattle.format.proofs.Decides.{answer_once}
use Rattle.format.proofs.Formats.{lawful_value}
use Rattle.show.specs.declared.Cell.{Cell}
use Rattle.scan.specs.Signed.{signed, unsigned}
use Rattle.show.specs.Cells.{plain_cell, float_cell, position_cell, point_cell, cell_of, type_of, value_of, shown_as}
use Rattle.scan.proofs.Twos.{signed_back}
use Rattle.show.proofs.Floats.{kept}
use Rattle.show.proofs.Bodies.{stood}
use Rattle.show.proofs.Values.{null_numbers, point_numbers}

-- what holds of each type that a column has holds of every such type
pub among : (P : ℕ → Type 0) → P 3 → P 4 → P 5 → P 6 → P 8 → P 9 → P 11 → P 22 → P 25 → P 26 → P 27 → (t : ℕ) → is_column t ≡ true → P t
among P p3 p4 p5 p6 p8 p9 p11 p22 p25 p26 p27 t is =
    either 3 p3 (λ n3. either 4 p4 (λ n4. either 5 p5 (λ n5. either 6 p6 (λ n6. either 8 p8 (λ n8. either 9 p9 (λ n9.
    either 11 p11 (λ n11. either 22 p22 (λ n22. either 25 p25 (λ n25. either 26 p26 (λ n26. either 27 p27 (λ n27.
    absurd (true≢false (sym is ∙ simp (n3, n4, n5, n6, n8, n9, n11, n22, n25, n26, n27))))))))))))))
  where
    either : (k : ℕ) → P k → (eqb t k ≡ false → P t) → P t
    either k p other = by_test (eqb t k) refl
      where
        by_test : (b : Bool) → eqb t k ≡ b → P t
        by_test true e = rw (eqb-true t k e) p
        by_test false e = other e

upper_lt : (n : ℕ) → n < 256 ^ 16 → n / 2 ^ 64 < 2 ^ 64
upper_lt n small = (div-lt_iff_lt-mul (lit< tt)).1 small

-- a number that the lower half alone has
low : {a n : ℕ} → a ≡ n → fixed (0 * 2 ^ 64 + a) ≡ fixed n
low {a} e = ap fixed (zero-add a ∙ e)

-- a cell that gives a value of a type back
abbrev pub Keeps : List ℕ → ℕ → ℕ → Value → Type 0
Keeps m t at v = (value_of m (cell_of t at v) ≡ v) × (type_of (cell_of t at v) ≡ t)

module _ (m : List ℕ) (at : ℕ) where
  float_keeps : (n : ℕ) → n < 2 ^ 64 → (value_of m (float_cell n) ≡ fixed n) × (type_of (float_cell n) ≡ 8)
  float_keeps n small = by_test (nan_bits binary64 n) refl
    where
      by_test : (b : Bool) → nan_bits binary64 n ≡ b → (value_of m (pick b (Cell.FloatBits n) (Cell.Float (of_bits binary64 n))) ≡ fixed n) × (type_of (pick b (Cell.FloatBits n) (Cell.Float (of_bits binary64 n))) ≡ 8)
      by_test true e = (low refl, refl)
      by_test false e = (low (kept n small e), refl)

  decimal_keeps : (n : ℕ) → n < 256 ^ 16 → unsigned 8 (signed 8 (n / 2 ^ 64)) * 2 ^ 64 + n % 2 ^ 64 ≡ n
  decimal_keeps n small = ap (λ (u : ℕ). u * 2 ^ 64 + n % 2 ^ 64) (signed_back 8 (n / 2 ^ 64) (upper_lt n small)) ∙ div-add-mod' n (2 ^ 64)

  position_keeps : (n : ℕ) → n < 256 ^ 16 → point_fine n ≡ true → to_bits binary64 (of_bits binary64 (n / 2 ^ 64)) * 2 ^ 64 + to_bits binary64 (of_bits binary64 (n % 2 ^ 64)) ≡ n
  position_keeps n small fine =
      let w = point_numbers n fine in
      ap₂ (λ (a b : ℕ). a * 2 ^ 64 + b) (kept (n / 2 ^ 64) (upper_lt n small) w.0) (kept (n % 2 ^ 64) (omega arith) w.1) ∙ div-add-mod' n (2 ^ 64)

  null_keeps : (n : ℕ) → is_null_point n ≡ true → degrees360 * 2 ^ 64 + degrees360 ≡ n
  null_keeps n null = let w = null_numbers n null in sym (ap₂ (λ (a b : ℕ). a * 2 ^ 64 + b) w.0 w.1) ∙ div-add-mod' n (2 ^ 64)

  point_keeps : (n : ℕ) → n < 256 ^ 16 → point_fine n ≡ true → (value_of m (point_cell n) ≡ fixed n) × (type_of (point_cell n) ≡ 26)
  point_keeps n small fine = by_test (is_null_point n) refl
    where
      by_test : (b : Bool) → is_null_point n ≡ b → (value_of m (pick b Cell.NullPoint (position_cell n)) ≡ fixed n) × (type_of (pick b Cell.NullPoint (position_cell n)) ≡ 26)
      by_test true e = (ap fixed (null_keeps n e), refl)
      by_test false e = (ap fixed (position_keeps n small fine), refl)

  -- every bit of a good value of a fixed size is kept, whatever the numbers of its fields
  pub fixed_kept : (l b t n : ℕ) → is_column t ≡ true → (value l b t).Good (fixed n) → Keeps m t at (fixed n)
  unfolding value into ruled number counted plain_cell
  fixed_kept l b t n =
      among (λ t. (value l b t).Good (fixed n) → Keeps m t at (fixed n))
      (λ g. (low (signed_back 1 n g.0.0), refl))
      (λ g. (low (signed_back 2 n g.0.0), refl))
      (λ g. (low (signed_back 4 n g.0.0), refl))
      (λ g. (low (signed_back 8 n g.0.0), refl))
      (λ g. float_keeps n g.0.0)
      (λ g. absurd (no_number g.1))
      (λ g. (low (signed_back 8 n g.0.0), refl))
      (λ g. (ap fixed (decimal_keeps n g.0.0), refl))
      (λ g. absurd (no_number g.1))
      (λ g. point_keeps n g.0.0 g.0.1)
      (λ g. absurd (no_number g.1))
      t
    where
      no_number : {b : Option (List ℕ)} → body b ≡ fixed n → ⊥
      no_number e = let z : ◌≡◌ {A = ℕ} 0 1 = cc in omega arith

-- so two good values of a type that are shown alike are one
pub fixed_once : (l b t at n k : ℕ) → is_column t ≡ true → (value l b t).Good (fixed n) → (value l b t).Good (fixed k) → cell_of t at (fixed n) ≡ cell_of t at (fixed k) → n ≡ k
fixed_once l b t at n k is g h e =
    let same : fixed n ≡ fixed k = sym (fixed_kept [] at l b t n is g).0 ∙ ap (value_of []) e ∙ (fixed_kept [] at l b t k is h).0 in
    ap number_of same

-- a value that was read, of whatever type, is the one that its cell gives back from the same bytes
module _ (s : List ℕ) (bytes : Bytes s) (at : ℕ) where
  no_body : {n : ℕ} {v : Option (List ℕ)} → fixed n ≡ body v → ⊥
  no_body e = let z : ◌≡◌ {A = ℕ} 0 1 = cc in omega arith

  some_kept : (rule : List ℕ → Verdict) (l b : ℕ) (bs : List ℕ) (next : ℕ)
      → bind {B = Value × ℕ} ((string true rule l b).read s at) (λ p. ok (body p.0, p.1)) ≡ ok (body (some bs), next) → body (some (take (length bs) (drop (at + 4) s))) ≡ body (some bs)
  some_kept rule l b bs next e =
      let w = bound ((string true rule l b).read s at) e in
      let same : w.0.0 ≡ some bs = ap (λ (p : Value × ℕ). body_of p.0) (ok_same w.2) in
      let read = w.1 ∙ ap (λ (o : Option (List ℕ)). ok (o, w.0.1)) same in
      ap (λ (l : List ℕ). body (some l)) (stood true most_bytes rule l b s at read).bytes

  body_read : (l b t : ℕ) (v : Option (List ℕ)) (next : ℕ) → is_column t ≡ true → (value l b t).Good (body v) → (value l b t).read s at ≡ ok (body v, next) → Keeps s t at (body v)
  unfolding value into
  body_read l b t none next =
      among (λ t. (value l b t).Good (body none) → (value l b t).read s at ≡ ok (body none, next) → Keeps s t at (body none))
      (λ g e. absurd (no_body g.1)) (λ g e. absurd (no_body g.1)) (λ g e. absurd (no_body g.1)) (λ g e. absurd (no_body g.1)) (λ g e. absurd (no_body g.1)) (λ g e. (refl, refl))
      (λ g e. absurd (no_body g.1)) (λ g e. absurd (no_body g.1)) (λ g e. (refl, refl)) (λ g e. absurd (no_body g.1)) (λ g e. (refl, refl)) t
  body_read l b t (some bs) next =
      among (λ t. (value l b t).Good (body (some bs)) → (value l b t).read s at ≡ ok (body (some bs), next) → Keeps s t at (body (some bs)))
      (λ g e. absurd (no_body g.1)) (λ g e. absurd (no_body g.1)) (λ g e. absurd (no_body g.1)) (λ g e. absurd (no_body g.1)) (λ g e. absurd (no_body g.1)) (λ g e. (some_kept utf8 l b bs next e, refl))
      (λ g e. absurd (no_body g.1)) (λ g e. absurd (no_body g.1)) (λ g e. (some_kept anything l b bs next e, refl)) (λ g e. absurd (no_body g.1)) (λ g e. (some_kept not_empty l b bs next e, refl)) t

  pub read_kept : (l b t : ℕ) (v : Value) (next : ℕ) → is_column t ≡ true → (value l b t).read s at ≡ ok (v, next) → Keeps s t at v
  read_kept l b t (fixed n) next is e = fixed_kept s at l b t n is ((lawful_value l b t).sound s bytes at (fixed n) next e).0
  read_kept l b t (body v) next is e = body_read l b t v next is ((lawful_value l b t).sound s bytes at (body v) next e).0 e

-- an answer says its reading, and no two answers say the same
pub told_shown_lem : {A : Type 0} (show : A → Cell) (r : Res (A × ℕ)) → told (shown_as show r) ≡ bind r (λ p. ok (show p.0, p.1))
told_shown_lem show (ok p) = refl
told_shown_lem show (no f p) = refl

pub told_once : (a b : Result (Cell × ℕ) Refusal) → told a ≡ told b → a ≡ b
told_once = answer_once
