-- `record::show_response` meets its contract: what is accepted has the record that is read. Assumes nothing.
use Prim.Native.Nat.{ℕ}
use mathlib.Core.Path.{◌∙◌, ap}
use Rattle.format.specs.Message.{read_message, response_layout}
use Rattle.format.specs.Result.{told}
use Rattle.format.proofs.Results.{handed_on}
use Rattle.message.specs.Verdict.{verdict_of}
use Rattle.record.proofs.Records.{fine_record, refused_record}
use Rattle.record.proofs.show_response.Goals as goal

pub returns-in_err-accept_layout : goal.returns-in_err-accept_layout
returns-in_err-accept_layout c =
    let a = c.args in
    let m = a.m.now in
    let said = c.accept_layout.ensures ∙ ap (λ (n : ℕ). verdict_of (read_message n m)) c.response_layout.ensures in
    ap told (handed_on c.from_residual.ensures) ∙ refused_record _ (read_message (response_layout a.timed) m) said c.in_err-accept_layout.was

pub returns : goal.returns
returns c =
    let a = c.args in
    let m = a.m.now in
    let said = c.accept_layout.ensures ∙ ap (λ (n : ℕ). verdict_of (read_message n m)) c.response_layout.ensures in
    fine_record _ (read_message (response_layout a.timed) m) said _ c.in_ok-accept_layout.was c.read_response.ensures
