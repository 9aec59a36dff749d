-- `record::login_response` meets its contract: what is accepted has the record that is read. Assumes nothing.
use mathlib.Core.Path.{◌∙◌, ap}
use Rattle.format.specs.Message.{read_message}
use Rattle.format.specs.Result.{told}
use Rattle.format.proofs.Results.{handed_on}
use Rattle.record.proofs.Records.{fine_record, refused_record, login_response_says}
use Rattle.record.proofs.login_response.Goals as goal

pub returns-in_err-accept : goal.returns-in_err-accept
returns-in_err-accept c = ap told (handed_on c.from_residual.ensures) ∙ refused_record _ (read_message 2 c.args.m.now) c.accept.ensures c.in_err-accept.was

pub returns : goal.returns
returns c =
    let m = c.args.m.now in
    fine_record _ (read_message 2 m) c.accept.ensures _ c.in_ok-accept.was (λ r e. c.read_login_response.ensures ∙ login_response_says m r e)
