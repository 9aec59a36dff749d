-- `scan::skip_point` meets its contract: the halves, then the rule. Assumes nothing.
use Rattle.format.proofs.Results.{handed_on}
use mathlib.Core.Path.{sym, ap, ◌∙◌}
use borrow.Author.Tests.{not-true, not-false}
use Rattle.format.specs.declared.Fault.TheVariants.{Point}
use Rattle.format.specs.Format.{number}
use Rattle.format.specs.Value.{point_fine}
use Rattle.scan.specs.Shown.{shown_next}
use Rattle.scan.proofs.Steps.{ruled_go, ruled_bad, ruled_stop}
use Rattle.scan.proofs.Sixteen.{halves_go, halves_stop}
use Rattle.scan.proofs.skip_point.Goals as goal

pub returns-in_err-longitude : goal.returns-in_err-longitude
returns-in_err-longitude c =
    let stop = halves_stop _ c.read_halves.ensures c.in_err-longitude.was in
    handed_on c.from_residual.ensures ∙ sym (ap shown_next (ruled_stop point_fine Point (number 16 0) _ _ stop))

pub returns-then-not-point_fine : goal.returns-then-not-point_fine
returns-then-not-point_fine c =
    let go = halves_go _ c.read_halves.ensures c.in_ok-longitude.was in
    sym (ap shown_next (ruled_bad point_fine Point (number 16 0) _ _ go (sym c.point_fine.ensures ∙ not-true _ c.if-not-point_fine.true-raw)))

pub returns : goal.returns
returns c =
    let go = halves_go _ c.read_halves.ensures c.in_ok-longitude.was in
    sym (ap shown_next (ruled_go point_fine Point (number 16 0) _ _ go (sym c.point_fine.ensures ∙ not-false _ c.if-not-point_fine.false-raw)))
