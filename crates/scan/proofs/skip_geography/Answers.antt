-- `scan::skip_geography` meets its contract: a body ends where its reading does. Assumes nothing.
use mathlib.Core.Path.{sym, ◌∙◌, ap}
use mathlib.Core.Bool.{true}
use Rattle.format.specs.Value.{string, not_empty}
use Rattle.format.proofs.Results.{handed_on}
use Rattle.scan.specs.Shown.{shown_next}
use Rattle.scan.proofs.Answers.{body_ends, body_stop}
use Rattle.scan.proofs.skip_geography.Goals as goal

pub returns-in_err-read_geography : goal.returns-in_err-read_geography
returns-in_err-read_geography c =
    let a = c.args in
    handed_on c.from_residual.ensures ∙ sym (ap shown_next (body_stop a.at ((string true not_empty 0 0).read a.s.now a.at) c.read_geography.ensures c.in_err-read_geography.was))

pub returns : goal.returns
returns c =
    let a = c.args in
    body_ends a.at ((string true not_empty 0 0).read a.s.now a.at) c.read_geography.ensures c.in_ok-read_geography.was c.body_end.ensures
