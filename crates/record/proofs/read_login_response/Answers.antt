-- `record::read_login_response` meets its contract: by the result.
use mathlib.Core.Path.{◌∙◌}
use Rattle.record.proofs.Fields.{response_none, response_some}
use Rattle.record.proofs.read_login_response.Goals as goal

pub returns-then-result-ne0 : goal.returns-then-result-ne0
returns-then-result-ne0 c = c.no_server.ensures ∙ response_none c.args.m.now c.number_at-first.result c.number_at-second.result c.number_at-first.ensures c.number_at-second.ensures c.if-result-ne0.true

pub returns : goal.returns
returns c = c.read_server.ensures ∙ response_some c.args.m.now c.number_at-first.result c.number_at-second.result c.number_at-first.ensures c.number_at-second.ensures c.if-result-ne0.false
