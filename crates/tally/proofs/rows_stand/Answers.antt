-- `tally::rows_stand` meets its contract. Assumes nothing.
use Rattle.std.proofs.Common.{◌≡◌, ℕ, ◌≤◌, sym, ◌∙◌, mul-le-mul, arith, leb-true}
use Rattle.format.specs.Message.{unlimited}
use Rattle.tally.proofs.rows_stand.Goals as goal

pub returns-then-size-eq0 : goal.returns-then-size-eq0
returns-then-size-eq0 c = λ is. absurd (let z : ◌≡◌ {A = ℕ} 0 1 = cc in omega arith)

pub returns-then-n-eq0 : goal.returns-then-n-eq0
returns-then-n-eq0 c = λ is. absurd (let z : ◌≡◌ {A = ℕ} 0 1 = cc in omega arith)

pub returns-then-n-gt-UNLIMITED : goal.returns-then-n-gt-UNLIMITED
returns-then-n-gt-UNLIMITED c = λ is. absurd (let z : ◌≡◌ {A = ℕ} 0 1 = cc in omega arith)

pub overflow_mul-n : goal.overflow_mul-n
overflow_mul-n c =
    let few : c.args.n ≤ unlimited = omega arith in
    omega (arith, mul-le-mul few c.requires)

pub returns : goal.returns
returns c = λ is. record { some_rows = omega arith; some_bytes = omega arith; few = omega arith; fit = leb-true _ _ (sym c.fits.ensures ∙ is) }
