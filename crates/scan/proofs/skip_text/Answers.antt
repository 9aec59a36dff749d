-- `scan::skip_text` meets its contract: a body ends where its reading does. Assumes nothing.
use mathlib.Core.Path.{sym, ◌∙◌, ap}
use Rattle.format.specs.Text.{utf8}
use Rattle.format.specs.Value.{string}
use Rattle.format.proofs.Results.{handed_on}
use Rattle.scan.specs.Shown.{shown_next}
use Rattle.scan.proofs.Answers.{body_ends, body_stop}
use Rattle.scan.proofs.skip_text.Goals as goal

pub returns-in_err-read_text : goal.returns-in_err-read_text
returns-in_err-read_text c =
    let a = c.args in
    handed_on c.from_residual.ensures ∙ sym (ap shown_next (body_stop a.at ((string a.nullable utf8 0 0).read a.s.now a.at) c.read_text.ensures c.in_err-read_text.was))

pub returns : goal.returns
returns c =
    let a = c.args in
    body_ends a.at ((string a.nullable utf8 0 0).read a.s.now a.at) c.read_text.ensures c.in_ok-read_text.was c.body_end.ensures
