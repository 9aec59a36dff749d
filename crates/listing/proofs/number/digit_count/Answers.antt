-- `ilog10` finds a power of ten that is at most n, while ten times that is above it. Zero takes one digit, as 1 does.
use Rattle.std.proofs.Common.{ℕ, ◌+◌, ◌-◌, ◌*◌, ◌^◌, ◌≤◌, ◌<◌, ◌≡◌, ap, subst, ◌∙◌, add-one, arith, max}
use Rattle.std.proofs.Math.Nat.{pow-le-pow_right, pow-succ', le-max_left}
use Rattle.listing.proofs.number.digit_count.Goals as goal

below : (n r : ℕ) → max n 1 < 10 * 10 ^ r → n < 10 ^ (r + 1)
below n r h =
    let more : 10 ^ (r + 1) ≡ 10 * 10 ^ r = ap (λ (j : ℕ). 10 ^ j) (add-one r) ∙ pow-succ' 10 r in
    omega (arith, more, le-max_left n 1)

above : (n r : ℕ) → 10 ^ r ≤ max n 1 → 1 < r + 1 → 10 ^ (r + 1 - 1) ≤ n
above n r h more =
    let same : r ≡ r + 1 - 1 = omega arith in
    let ten : 10 ^ 1 ≤ 10 ^ r = pow-le-pow_right {n = 10} (omega arith) {i = 1} {j = r} (omega arith) in
    subst (λ (j : ℕ). 10 ^ j ≤ n) same (grind (arith, ten))

pub returns : goal.returns
returns c =
    let m = c.max.ensures in
    let p = c.ilog10.ensures in
    (omega arith, below c.args.n c.ilog10.result (omega arith), λ more. above c.args.n c.ilog10.result (omega arith) more)
