-- `listing::number::decimal` meets its contract: as many digits as the number has.
use Rattle.std.proofs.Common.{◌≤◌, sym, arith}
use Rattle.std.proofs.Math.Seq.{length-take-le}
use Rattle.listing.proofs.Spelled.{at_most_20}
use Rattle.listing.proofs.number.decimal.Goals as goal
use Rattle.listing.proofs.number.decimal.Goals.{After-digit_count-k}

-- twenty digits hold a u64
count_fits : (c : goal.After-digit_count-k) → c.digit_count-k.result ≤ 20
count_fits c = at_most_20 c.args.n c.digit_count-k.result (omega arith) c.digit_count-k.ensures

pub write_digits-requires : goal.write_digits-requires
write_digits-requires c = omega (arith, count_fits (goal.at.write_digits-requires c).After-digit_count-k)

pub returns : goal.returns
returns c =
    let fits = count_fits (goal.at.returns c).After-digit_count-k in
    record { in_bounds = (omega (arith, fits), sym (length-take-le _ _ (omega (arith, fits)))); len = c.digit_count-k.ensures; digits = c.write_digits.ensures.digits; rest = c.write_digits.ensures.rest }
