-- `tally::types_of` meets its contract: the types stand after the count, 7 bytes into the metadata. Assumes nothing.
use Rattle.std.proofs.Common.{◌≡◌, ◌+◌, ◌-◌, ◌<◌, ◌≤◌, length, sym, ◌∙◌, arith, leb-false, leb-true}
use borrow.Author.Tests.{not-true, not-false}
use Rattle.scan.proofs.Answers.{number_stands}
use Rattle.tally.proofs.Tours.{bytes_all}
use Rattle.tally.proofs.Tables.{found_columns}
use Rattle.tally.proofs.types_of.Goals as goal

pub returns-then-not-fits : goal.returns-then-not-fits
returns-then-not-fits c =
    λ m next e.
    let a = c.args in
    let w = found_columns a.s.now (bytes_all a.s.now c.type_inv.s) a.at m next e c.bytes_on-count.ensures c.bytes_on-first.ensures (number_stands c.number_at-n.ensures) in
    let fit = w.0 in
    let over : length a.s.now < c.bytes_on-first.result + c.number_at-n.result = leb-false _ _ (sym c.fits.ensures ∙ not-true _ c.if-not-fits.true-raw) in
    absurd (omega arith)

pub overflow_add-end : goal.overflow_add-end
overflow_add-end c =
    let a = c.args in
    let fit : c.bytes_on-first.result + c.number_at-n.result ≤ length a.s.now = leb-true _ _ (sym c.fits.ensures ∙ not-false _ c.if-not-fits.false-raw) in
    omega arith

pub slice_bounds-result-end-2 : goal.slice_bounds-result-end-2
slice_bounds-result-end-2 c =
    let a = c.args in
    let fit : c.bytes_on-first.result + c.number_at-n.result ≤ length a.s.now = leb-true _ _ (sym c.fits.ensures ∙ not-false _ c.if-not-fits.false-raw) in
    fit

pub returns : goal.returns
returns c =
    λ m next e.
    let a = c.args in
    let w = found_columns a.s.now (bytes_all a.s.now c.type_inv.s) a.at m next e c.bytes_on-count.ensures c.bytes_on-first.ensures (number_stands c.number_at-n.ensures) in
    let size : c.bytes_on-first.result + c.number_at-n.result - c.bytes_on-first.result ≡ c.number_at-n.result = omega arith in
    rw size (sym w.1)
