-- `tally::length_at` meets its contract. Assumes nothing.
use Rattle.std.proofs.Common.{◌+◌, ◌<◌, length, sym, ◌∙◌, arith, leb-false, leb-true}
use borrow.Author.Tests.{not-true, not-false}
use Rattle.scan.proofs.Answers.{took}
use Rattle.tally.proofs.length_at.Goals as goal

pub returns-then-not-fits : goal.returns-then-not-fits
returns-then-not-fits c =
    λ n next e.
    let a = c.args in
    let over : length a.s.now < a.at + 4 = leb-false _ _ (sym c.fits.ensures ∙ not-true _ c.if-not-fits.true-raw) in
    absurd (omega (arith, (took 4 0 a.s.now a.at n next e).fit))

pub four-requires : goal.four-requires
four-requires c = leb-true _ _ (sym c.fits.ensures ∙ not-false _ c.if-not-fits.false-raw)

pub returns : goal.returns
returns c =
    λ n next e.
    let a = c.args in
    c.four.ensures.0 ∙ sym (took 4 0 a.s.now a.at n next e).value
