-- `areas::read_count` meets its contract: the field fits, then one test for both of its rules, and which one it breaks. Assumes nothing.
use Rattle.std.proofs.Common.{◌+◌, ◌<◌, ◌≤◌, length, sym, ap, ◌∙◌, arith, leb-true}
use borrow.Author.Tests.{not-true, not-false}
use Rattle.format.specs.Number.{num_at}
use Rattle.scan.specs.Shown.{shown}
use Rattle.areas.proofs.Heads.{in_range, out_of_range, count_short, count_negative, count_few, count_fine}
use Rattle.areas.proofs.read_count.Goals as goal

pub returns-then-not-fits : goal.returns-then-not-fits
returns-then-not-fits c =
    let a = c.args in
    sym (ap shown (count_short a.fewest 0 a.b.now a.at (sym c.fits.ensures ∙ not-true _ c.if-not-fits.true-raw)))

pub four-n-requires : goal.four-n-requires
four-n-requires c =
    leb-true _ _ (sym c.fits.ensures ∙ not-false _ c.if-not-fits.false-raw)

pub overflow_add-result : goal.overflow_add-result
overflow_add-result c =
    let a = c.args in
    let fit : a.at + 4 ≤ length a.b.now = leb-true _ _ (sym c.fits.ensures ∙ not-false _ c.if-not-fits.false-raw) in
    omega arith

pub returns-then-wrapping_sub_u64-fewest : goal.returns-then-wrapping_sub_u64-fewest
returns-then-wrapping_sub_u64-fewest c =
    let a = c.args in
    let w = in_range (num_at 4 a.b.now a.at) a.fewest c.wrapping_sub_u64.result c.requires c.wrapping_sub_u64.type_inv (c.wrapping_sub_u64.ensures.value ∙ c.four-n.ensures.0) c.if-wrapping_sub_u64-fewest.true in
    rw c.four-n.ensures.0 (sym (ap shown (count_fine a.fewest 0 a.b.now a.at (sym c.fits.ensures ∙ not-false _ c.if-not-fits.false-raw) w.1 w.0)))

pub returns-then-n-fewest : goal.returns-then-n-fewest
returns-then-n-fewest c =
    let a = c.args in
    let low : num_at 4 a.b.now a.at < a.fewest = rw (← c.four-n.ensures.0) c.if-n-fewest.true in
    let few = c.requires in
    sym (ap shown (count_few a.fewest 0 a.b.now a.at (sym c.fits.ensures ∙ not-false _ c.if-not-fits.false-raw) (omega arith) low))

pub returns : goal.returns
returns c =
    let a = c.args in
    let many : a.fewest ≤ num_at 4 a.b.now a.at = rw (← c.four-n.ensures.0) c.if-n-fewest.false in
    let high = out_of_range (num_at 4 a.b.now a.at) a.fewest c.wrapping_sub_u64.result c.requires c.wrapping_sub_u64.type_inv (c.wrapping_sub_u64.ensures.value ∙ c.four-n.ensures.0) c.if-wrapping_sub_u64-fewest.false many in
    sym (ap shown (count_negative a.fewest 0 a.b.now a.at (sym c.fits.ensures ∙ not-false _ c.if-not-fits.false-raw) high))
