-- `message::skip_content` meets its contract: the content by its layout. Assumes nothing.
use mathlib.Core.Path.{◌∙◌}
use Rattle.message.proofs.Whole.{content_1, content_2, content_3, content_4}
use Rattle.message.proofs.skip_content.Goals as goal

pub returns-in-1 : goal.returns-in-1
returns-in-1 c =
    let a = c.args in
    c.skip_login_request.ensures ∙ content_1 _ _ a.layout a.version c.in-1.is

pub returns-in-2 : goal.returns-in-2
returns-in-2 c =
    let a = c.args in
    c.skip_login_response.ensures ∙ content_2 _ _ a.layout a.version c.in-2.is

pub returns-in-3 : goal.returns-in-3
returns-in-3 c =
    let a = c.args in
    c.skip_invocation.ensures ∙ content_3 _ _ a.layout a.version c.in-3.is

pub returns-in_default : goal.returns-in_default
returns-in_default c =
    let a = c.args in
    let other = c.in_default.in_default-own.rest in
    c.skip_response.ensures ∙ content_4 _ _ a.layout a.version other.0.0.1 other.0.1 other.1
