-- What a count of at least so many gives, by what its four bytes say; and what all before the first ring gives, by what its three bytes and its count say.
use Rattle.std.proofs.Common.{◌≡◌, ℕ, ◌+◌, ◌-◌, ◌%◌, ◌^◌, ◌<◌, ◌≤◌, true, false, eqb, ltb, leb, List, length, sym, refl, ap, ◌∙◌, mod-eq_of_lt, arith, ltb-true, le-ltb, lt-ltb, le-leb}
use native.Mathlib.Decide.{dec_lt}
use borrow.Author.Tests.{lt-leb}
use Rattle.format.specs.declared.Fault.{Fault}
use Rattle.format.specs.declared.Fault.TheVariants.{Short, Negative, Geography}
use Rattle.format.specs.Result.{ok, no as refused}
use Rattle.format.specs.Number.{num_at, half}
use Rattle.format.specs.Format.{number, ruled, both}
use Rattle.format.specs.Geography.{at_least, holes_of}
use Rattle.format.proofs.Results.{ok_same, passed, bound}
use Rattle.scan.proofs.Answers.{took}
use Rattle.areas.specs.Passes.{head}

-- one test for both ends: what is left of a number when the fewest are taken from it, round 2 ^ 64
module _ (n few left : ℕ) (low : few < 2 ^ 31) (word : left < 2 ^ 64) (is : (left + few) % 2 ^ 64 ≡ n) where
  pub in_range : left < half 4 - few → (few ≤ n) × (n < half 4)
  in_range h = let same : n ≡ left + few = sym is ∙ mod-eq_of_lt (omega arith) in (omega arith, omega arith)

  pub out_of_range : half 4 - few ≤ left → few ≤ n → half 4 ≤ n
  out_of_range h enough = omega arith

module _ (few field : ℕ) (s : List ℕ) (at : ℕ) where
  -- reading looks at no field's number
  pub any_field : (at_least few 0).read s at ≡ (at_least few field).read s at
  unfolding ruled number
  any_field = refl

  pub count_short : leb (at + 4) (length s) ≡ false → (at_least few field).read s at ≡ refused Short at
  unfolding ruled number
  count_short e = rw e

  module _ (fits : leb (at + 4) (length s) ≡ true) where
    pub count_negative : half 4 ≤ num_at 4 s at → (at_least few field).read s at ≡ refused Negative at
    unfolding ruled number
    count_negative h = rw (fits, le-ltb (num_at 4 s at) (half 4) h)

    pub count_few : num_at 4 s at < half 4 → num_at 4 s at < few → (at_least few field).read s at ≡ refused Geography at
    unfolding ruled number
    count_few low h = rw (fits, lt-ltb (num_at 4 s at) (half 4) low, lt-leb few (num_at 4 s at) h)

    pub count_fine : num_at 4 s at < half 4 → few ≤ num_at 4 s at → (at_least few field).read s at ≡ ok (num_at 4 s at, at + 4)
    unfolding ruled number
    count_fine low h = rw (fits, lt-ltb (num_at 4 s at) (half 4) low, le-leb few (num_at 4 s at) h)

-- what a count that was read says: it is where there is room for it, and not negative
pub record Counted (s : List ℕ) (at n next : ℕ) : Type 0 where
  pub place : next ≡ at + 4
  pub within : next ≤ length s
  pub low : n < 2 ^ 31

pub counted : (few field : ℕ) (s : List ℕ) (at : ℕ) {n next : ℕ} → (at_least few field).read s at ≡ ok (n, next) → Counted s at n next
unfolding ruled
counted few field s at {n} {next} e =
    let p = bound ((ruled (λ k. ltb k (half 4)) Negative (number 4 field)).read s at) e in
    let inner = p.1 ∙ (passed (leb few p.0.0) _ _ p.2).1 in
    let q = bound ((number 4 field).read s at) inner in
    let w = passed (ltb q.0.0 (half 4)) _ _ q.2 in
    let t = took 4 field s at n next (q.1 ∙ w.1) in
    let low : q.0.0 < half 4 = ltb-true _ _ w.0 in
    let same : q.0.0 ≡ n = ap (λ (v : ℕ × ℕ). v.0) (ok_same w.1) in
    record { place = t.place; within = rw t.place t.fit; low = omega (arith, low, same) }

-- the three leading bytes and the ring count
module _ (s : List ℕ) where
  pub head_short : length s < 3 → head.read s 0 ≡ refused Short (length s)
  unfolding head both ruled number
  head_short h = by_length (dec_lt (length s) 1) (dec_lt (length s) 2)
    where
      by_length : Dec (length s < 1) → Dec (length s < 2) → head.read s 0 ≡ refused Short (length s)
      by_length (yes e) d = let none : length s ≡ 0 = omega arith in rw none
      by_length (no e) (yes f) = let one : length s ≡ 1 = omega arith in rw one
      by_length (no e) (no f) = let two : length s ≡ 2 = omega arith in rw two

  module _ (long : 3 ≤ length s) where
    byte_fits : (at : ℕ) → at < 3 → leb (at + 1) (length s) ≡ true
    byte_fits at h = le-leb (at + 1) (length s) (omega arith)

    pub head_bad : 1 < num_at 1 s 2 → head.read s 0 ≡ refused Geography 2
    unfolding head both ruled number
    head_bad h = rw (byte_fits 0 (omega arith), byte_fits 1 (omega arith), byte_fits 2 (omega arith), lt-leb (num_at 1 s 2) 1 h)

    module _ (fine : num_at 1 s 2 ≤ 1) where
      pub head_stop : {f : Fault} {p : ℕ} → (at_least 1 63).read s 3 ≡ refused f p → head.read s 0 ≡ refused f p
      unfolding head both ruled number
      head_stop e = rw (byte_fits 0 (omega arith), byte_fits 1 (omega arith), byte_fits 2 (omega arith), le-leb (num_at 1 s 2) 1 fine, e)

      pub head_other : {n next : ℕ} → (at_least 1 63).read s 3 ≡ ok (n, next) → eqb (num_at 1 s 2) (holes_of n) ≡ false → head.read s 0 ≡ refused Geography 2
      unfolding head both ruled number
      head_other e other = rw (byte_fits 0 (omega arith), byte_fits 1 (omega arith), byte_fits 2 (omega arith), le-leb (num_at 1 s 2) 1 fine, e, other)

      pub head_fine : {n next : ℕ} → (at_least 1 63).read s 3 ≡ ok (n, next) → eqb (num_at 1 s 2) (holes_of n) ≡ true → head.read s 0 ≡ ok ((num_at 1 s 0, (num_at 1 s 1, (num_at 1 s 2, n))), next)
      unfolding head both ruled number
      head_fine e same = rw (byte_fits 0 (omega arith), byte_fits 1 (omega arith), byte_fits 2 (omega arith), le-leb (num_at 1 s 2) 1 fine, e, same)
