-- `tally::tally_types` meets its contract. Assumes nothing.
use Rattle.std.proofs.Common.{◌+◌, ◌≤◌, length, sym, ◌∙◌, arith, leb-false, leb-true}
use borrow.Author.Tests.{not-true, not-false}
use Rattle.tally.proofs.Tours.{bytes_all}
use Rattle.tally.proofs.Evens.{tallied_no_types, tallied_short, tallied_types}
use Rattle.tally.proofs.tally_types.Goals as goal

pub returns-then-n-eq0 : goal.returns-then-n-eq0
returns-then-n-eq0 c =
    let a = c.args in
    tallied_no_types a.s.now a.tally a.n c.if-n-eq0.true

pub returns-then-not-fits : goal.returns-then-not-fits
returns-then-not-fits c =
    let a = c.args in
    tallied_short a.s.now a.tally a.n (omega arith) (leb-false _ _ (sym c.fits.ensures ∙ not-true _ c.if-not-fits.true-raw))

pub overflow_add-result : goal.overflow_add-result
overflow_add-result c =
    let a = c.args in
    let fit : a.tally.at + a.n ≤ length a.s.now = leb-true _ _ (sym c.fits.ensures ∙ not-false _ c.if-not-fits.false-raw) in
    omega arith

pub returns : goal.returns
returns c =
    let a = c.args in
    tallied_types a.s.now a.tally a.n (bytes_all a.s.now c.type_inv.s) (omega arith) c.wrapping_add_usize.ensures.value
