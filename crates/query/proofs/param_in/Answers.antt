-- `query::param_in` meets its contract: the walk over the parameters before it comes to parameter p.
use mathlib.Core.Path.{◌∙◌, ap}
use Rattle.query.specs.Shown.{past_of}
use native.Mathlib.Omega.{arith}
use Rattle.query.proofs.Opened.{bytes_all}
use Rattle.query.proofs.Calls.{params_is, param_past, param_found}
use Rattle.query.proofs.param_in.Goals as goal

pub returns-then-count_at-p : goal.returns-then-count_at-p
returns-then-count_at-p c =
    λ v e.
    let a = c.args in
    let all = bytes_all a.m.now (λ k. omega (arith, c.type_inv.m k)) in
    let client = c.unwrap_or-client.ensures ∙ ap past_of c.skip_body.ensures in
    let n = params_is a.m.now all v e client c.after-counted.ensures c.count_at.ensures in
    param_past a.m.now all v e client c.after-counted.ensures a.p (omega arith)

pub returns : goal.returns
returns c =
    λ v e.
    let a = c.args in
    let all = bytes_all a.m.now (λ k. omega (arith, c.type_inv.m k)) in
    let client = c.unwrap_or-client.ensures ∙ ap past_of c.skip_body.ensures in
    let n = params_is a.m.now all v e client c.after-counted.ensures c.count_at.ensures in
    param_found a.m.now all v e client c.after-counted.ensures a.p c.after-first.result (omega arith) c.after-first.ensures c.pass_params.ensures
