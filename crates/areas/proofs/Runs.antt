-- Floats side by side have no rule but that they fit: all are passed by their size, and the first one that doesn't fit is found by how many do.
use Rattle.std.proofs.Common.{◌≡◌, ℕ, zero, suc, ◌+◌, ◌-◌, ◌*◌, ◌/◌, ◌<◌, ◌≤◌, List, [], ◌∷◌, length, replicate, refl, arith, le-leb}
use native.Mathlib.Decide.{dec_le}
use borrow.Author.Tests.{lt-leb}
use Rattle.format.specs.declared.Fault.TheVariants.{Short}
use Rattle.format.specs.Result.{ok, no as refused}
use Rattle.format.specs.Number.{num_at}
use Rattle.format.specs.Format.{Format, Index, number, nothing, each}
use Rattle.format.specs.Message.{second, third}
use Rattle.format.specs.Geography.{vertex}

-- w bytes of floats: read where they fit, and else refused at the first float that doesn't
pub record Runs {A : Type 0} (w : ℕ) (f : Format A) : Type 0 where
  pub floats : ℕ
  pub size : w ≡ 8 * floats
  pub fits : (s : List ℕ) (at : ℕ) → at + w ≤ length s → (a : A) × (f.read s at ≡ ok (a, at + w))
  pub short : (s : List ℕ) (at : ℕ) → at ≤ length s → length s < at + w → f.read s at ≡ refused Short (at + (length s - at) / 8 * 8)

float_runs : (field : ℕ) → Runs 8 (number 8 field)
unfolding number
float_runs field = record {
  floats = 1;
  size = refl;
  fits = λ s at h. (num_at 8 s at, rw (le-leb (at + 8) (length s) h));
  short = λ s at low over. let none : at + (length s - at) / 8 * 8 ≡ at = omega arith in rw (lt-leb (at + 8) (length s) over, none);
}

module _ {A : Type 0} (at-index : ℕ → Index → Index) {w : ℕ} {f : Format A} (r : Runs w f) where
  more : (n : ℕ) → w * suc n ≡ w + w * n
  more n = omega arith

  each_fits : (n k : ℕ) (s : List ℕ) (at : ℕ) → at + w * n ≤ length s → (l : List A) × ((each at-index k (replicate n f)).read s at ≡ ok (l, at + w * n))
  unfolding each nothing
  each_fits zero k s at h = let none : at + w * 0 ≡ at = omega arith in ([], rw none)
  each_fits (suc n) k s at h =
      let step = more n in
      let one = r.fits s at (omega arith) in
      let rest = each_fits n (k + 1) s (at + w) (omega arith) in
      let end : at + w + w * n ≡ at + w * suc n = omega arith in
      (one.0 ∷ rest.0, rw (one.1, rest.1, end))

  each_short : (n k : ℕ) (s : List ℕ) (at : ℕ) → at ≤ length s → length s < at + w * n → (each at-index k (replicate n f)).read s at ≡ refused Short (at + (length s - at) / 8 * 8)
  unfolding each nothing
  each_short zero k s at low over = let none : at + w * 0 ≡ at = omega arith in absurd (omega arith)
  each_short (suc n) k s at low over = by_room (λ h more. each_short n (k + 1) s (at + w) h more) (dec_le (at + w) (length s))
    where
      by_room : (at + w ≤ length s → length s < at + w + w * n → (each at-index (k + 1) (replicate n f)).read s (at + w) ≡ refused Short (at + w + (length s - (at + w)) / 8 * 8))
          → Dec (at + w ≤ length s) → (each at-index k (replicate (suc n) f)).read s at ≡ refused Short (at + (length s - at) / 8 * 8)
      by_room rest (yes h) =
          let step = more n in
          let units = r.size in
          let one = r.fits s at h in
          let place : at + w + (length s - (at + w)) / 8 * 8 ≡ at + (length s - at) / 8 * 8 = omega arith in
          rw (one.1, rest h (omega arith), place)
      by_room rest (no h) = rw (r.short s at low (omega arith))

  pub each_runs : (n k : ℕ) → Runs (w * n) (each at-index k (replicate n f))
  each_runs n k = record { floats = r.floats * n; size = rw r.size (omega arith); fits = each_fits n k; short = each_short n k }

pub vertex_runs : Runs 24 vertex
unfolding vertex
vertex_runs = each_runs third (float_runs 66) 3 0

pub vertices_run : (n : ℕ) → Runs (24 * n) (each second 0 (replicate n vertex))
vertices_run n = each_runs second vertex_runs n 0
