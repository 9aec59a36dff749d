-- `areas::pass_ring` meets its contract: its byte, its vertex count, its vertices and what it keeps, in this order. Assumes nothing.
use Rattle.format.proofs.Results.{handed_on}
use Rattle.std.proofs.Common.{◌+◌, ◌≤◌, length, sym, ap, ◌∙◌, arith, leb-true}
use borrow.Author.Tests.{not-true, not-false}
use Rattle.format.specs.Format.{block}
use Rattle.format.specs.Geography.{at_least, ring_kept}
use Rattle.scan.specs.Shown.{shown, shown_next}
use Rattle.scan.proofs.Answers.{shown_go, shown_stop, next_go, next_stop}
use Rattle.scan.proofs.Steps.{both_ends, both_stop, block_ends}
use Rattle.areas.proofs.Heads.{any_field, counted}
use Rattle.areas.proofs.Rounds.{after_count, ring_short, ring_marked}
use Rattle.areas.proofs.pass_ring.Goals as goal

pub returns-then-not-fits : goal.returns-then-not-fits
returns-then-not-fits c =
    let a = c.args in
    sym (ring_short a.b.now a.at (sym c.fits.ensures ∙ not-true _ c.if-not-fits.true-raw))

pub overflow_add-at : goal.overflow_add-at
overflow_add-at c =
    let a = c.args in
    let fit : a.at + 1 ≤ length a.b.now = leb-true _ _ (sym c.fits.ensures ∙ not-false _ c.if-not-fits.false-raw) in
    omega arith

pub returns-in_err-n : goal.returns-in_err-n
returns-in_err-n c =
    let a = c.args in
    let marked = ring_marked a.b.now a.at (sym c.fits.ensures ∙ not-false _ c.if-not-fits.false-raw) in
    let stop = shown_stop ((at_least 3 65).read a.b.now (a.at + 1)) (c.read_count.ensures ∙ ap shown (any_field 3 65 a.b.now (a.at + 1))) c.in_err-n.was in
    handed_on c.from_residual.ensures ∙ sym (marked ∙ ap shown_next (both_stop (at_least 3 65) after_count a.b.now (a.at + 1) stop))

pub pass_vertices-requires : goal.pass_vertices-requires
pass_vertices-requires c =
    let a = c.args in
    let go = shown_go ((at_least 3 65).read a.b.now (a.at + 1)) (c.read_count.ensures ∙ ap shown (any_field 3 65 a.b.now (a.at + 1))) c.in_ok-n.was in
    let w = counted 3 65 a.b.now (a.at + 1) go in
    (w.within, w.low)

pub returns-in_err-kept : goal.returns-in_err-kept
returns-in_err-kept c =
    let a = c.args in
    let marked = ring_marked a.b.now a.at (sym c.fits.ensures ∙ not-false _ c.if-not-fits.false-raw) in
    let go = shown_go ((at_least 3 65).read a.b.now (a.at + 1)) (c.read_count.ensures ∙ ap shown (any_field 3 65 a.b.now (a.at + 1))) c.in_ok-n.was in
    let stop = next_stop _ c.pass_vertices.ensures c.in_err-kept.was in
    handed_on c.from_residual-in_err-kept.ensures ∙ sym (marked ∙ both_ends (at_least 3 65) after_count a.b.now (a.at + 1) go ∙ ap shown_next (both_stop _ (λ vs. block ring_kept 67) a.b.now _ stop))

pub returns : goal.returns
returns c =
    let a = c.args in
    let marked = ring_marked a.b.now a.at (sym c.fits.ensures ∙ not-false _ c.if-not-fits.false-raw) in
    let go = shown_go ((at_least 3 65).read a.b.now (a.at + 1)) (c.read_count.ensures ∙ ap shown (any_field 3 65 a.b.now (a.at + 1))) c.in_ok-n.was in
    let on = (next_go _ c.pass_vertices.ensures c.in_ok-kept.was).1 in
    c.skip_fixed.ensures ∙ sym (marked ∙ both_ends (at_least 3 65) after_count a.b.now (a.at + 1) go ∙ both_ends _ (λ vs. block ring_kept 67) a.b.now _ on ∙ block_ends ring_kept 67 a.b.now _)
