-- `scan::decimal_fine` meets its contract: at the null value and at both ends the lower half decides, and elsewhere the upper.
use mathlib.Core.Path.{ap, sym, ◌∙◌}
use lib.IntN.{ℤ, pos, negsuc}
use lib.Signed.{lt_z}
use mir.Syntax.{w64}
use mir.ValLaws.{to_z-of_z}
use Rattle.scan.proofs.Decimals.{null_end, top_end, bottom_end, high_enough, too_low}
use Rattle.scan.proofs.decimal_fine.Goals as goal

pub returns-then-upper-eqminus9223372036854775808 : goal.returns-then-upper-eqminus9223372036854775808
returns-then-upper-eqminus9223372036854775808 c = null_end c.args.upper c.args.lower c.ranges.lower.fits c.if-upper-eqminus9223372036854775808.true

pub returns-then-upper-eq5421010862427522170 : goal.returns-then-upper-eq5421010862427522170
returns-then-upper-eq5421010862427522170 c = top_end c.args.upper c.args.lower c.ranges.lower.fits c.if-upper-eq5421010862427522170.true

pub returns-then-upper-eqminus5421010862427522171 : goal.returns-then-upper-eqminus5421010862427522171
returns-then-upper-eqminus5421010862427522171 c = bottom_end c.args.upper c.args.lower c.ranges.lower.fits c.if-upper-eqminus5421010862427522171.true

pub returns-then-upper-gtminus5421010862427522171 : goal.returns-then-upper-gtminus5421010862427522171
returns-then-upper-gtminus5421010862427522171 c =
    let z = c.args.upper in
    let back = to_z-of_z w64 z c.ranges.upper in
    ap (λ (y : ℤ). lt_z y (pos 5421010862427522170)) back
    ∙ high_enough z c.args.lower c.ranges.upper c.ranges.lower.fits (c.if-upper-eqminus9223372036854775808.false, c.if-upper-eq5421010862427522170.false, c.if-upper-eqminus5421010862427522171.false)
    (ap (λ (y : ℤ). lt_z (negsuc 5421010862427522170) y) (sym back) ∙ c.if-upper-gtminus5421010862427522171.true)

pub returns-else-upper-gtminus5421010862427522171 : goal.returns-else-upper-gtminus5421010862427522171
returns-else-upper-gtminus5421010862427522171 c =
    let z = c.args.upper in
    let back = to_z-of_z w64 z c.ranges.upper in
    c.if-upper-gtminus5421010862427522171.false
    ∙ too_low z c.args.lower c.ranges.upper c.ranges.lower.fits (c.if-upper-eqminus9223372036854775808.false, c.if-upper-eq5421010862427522170.false, c.if-upper-eqminus5421010862427522171.false)
    (ap (λ (y : ℤ). lt_z (negsuc 5421010862427522170) y) (sym back) ∙ c.if-upper-gtminus5421010862427522171.false)
