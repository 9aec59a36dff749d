-- `scan::skip_name` meets its contract: a name ends where its reading does. Assumes nothing.
use mathlib.Core.Bool.{false}
use mathlib.Core.Path.{sym, ◌∙◌, ap}
use Rattle.format.specs.Value.{string, ascii}
use Rattle.format.proofs.Results.{handed_on}
use Rattle.scan.specs.Shown.{shown_next}
use Rattle.scan.proofs.Answers.{span_ends, span_stop}
use Rattle.scan.proofs.skip_name.Goals as goal

pub returns-in_err-end : goal.returns-in_err-end
returns-in_err-end c =
    let a = c.args in
    handed_on c.from_residual.ensures ∙ sym (ap shown_next (span_stop a.at ((string false ascii 0 0).read a.s.now a.at) c.read_name.ensures c.in_err-end.was))

pub returns : goal.returns
returns c =
    let a = c.args in
    span_ends a.at ((string false ascii 0 0).read a.s.now a.at) c.read_name.ensures c.in_ok-end.was
