-- `login::ask_response` meets its contract: its tests are those of the plan, by the result. Assumes nothing.
use mathlib.Core.Path.{refl, sym, ap₂, ◌∙◌}
use Rattle.format.specs.Message.{a_login_response, message_bytes}
use Rattle.steps.specs.Plans.{also}
use Rattle.steps.specs.Steps.{says}
use Rattle.steps.specs.Logins.{response_fault, written_response, login_plan}
use Rattle.write.proofs.Taken.{answered}
use Rattle.login.specs.Parts.{welcome}
use Rattle.login.proofs.Parts.{response_length-none, response_length-some, response_fault_none, response_fault_some}
use Rattle.login.proofs.ask_response.Goals as goal

pub returns-then-res-ne0 : goal.returns-then-res-ne0
returns-then-res-ne0 c =
    answered (login_plan (response_fault c.args.version c.args.res (welcome 0 0 0 0 c.args.build.now)) (message_bytes 2 (says c.args.version (a_login_response (written_response c.args.res (welcome 0 0 0 0 c.args.build.now)))))) c.args.size
    c.judge.ensures refl (c.test-edition.ensures ∙ sym (response_fault_none c.args.version c.args.res (welcome 0 0 0 0 c.args.build.now) c.if-res-ne0.true))
    (λ u w. (refl, sym (response_length-none c.args.version c.args.res (welcome 0 0 0 0 c.args.build.now) c.if-res-ne0.true)))

pub returns : goal.returns
returns c =
    answered (login_plan (response_fault c.args.version c.args.res (welcome 0 0 0 0 c.args.build.now)) (message_bytes 2 (says c.args.version (a_login_response (written_response c.args.res (welcome 0 0 0 0 c.args.build.now)))))) c.args.size
    c.judge-2.ensures refl
    (c.also-fault.ensures ∙ ap₂ also c.test-edition.ensures c.text_fault.ensures ∙ sym (response_fault_some c.args.version c.args.res (welcome 0 0 0 0 c.args.build.now) c.if-res-ne0.false))
    (λ u w. (refl, sym (response_length-some c.args.version c.args.res (welcome 0 0 0 0 c.args.build.now) c.if-res-ne0.false)))
