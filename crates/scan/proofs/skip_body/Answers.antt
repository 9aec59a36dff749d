-- `scan::skip_body` meets its contract: a body ends where its reading does. Assumes nothing.
use mathlib.Core.Path.{sym, ◌∙◌, ap}
use Rattle.format.specs.Value.{string, anything}
use Rattle.format.proofs.Results.{handed_on}
use Rattle.scan.specs.Shown.{shown_next}
use Rattle.scan.proofs.Answers.{body_ends, body_stop}
use Rattle.scan.proofs.skip_body.Goals as goal

pub returns-in_err-read_body : goal.returns-in_err-read_body
returns-in_err-read_body c =
    let a = c.args in
    handed_on c.from_residual.ensures ∙ sym (ap shown_next (body_stop a.at ((string a.nullable anything 0 0).read a.s.now a.at) c.read_body.ensures c.in_err-read_body.was))

pub returns : goal.returns
returns c =
    let a = c.args in
    body_ends a.at ((string a.nullable anything 0 0).read a.s.now a.at) c.read_body.ensures c.in_ok-read_body.was c.body_end.ensures
