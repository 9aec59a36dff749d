-- `query::parameter` meets its contract: the refusal of the place, or what stands there.
use mathlib.Core.Path.{◌∙◌, sym, ap}
use native.Mathlib.Omega.{arith}
use Rattle.format.specs.Result.{ok, told}
use Rattle.query.specs.Answers.{given_of}
use Rattle.query.proofs.Opened.{bytes_all}
use Rattle.query.proofs.Calls.{param_asked}
use Rattle.query.proofs.parameter.Goals as goal

pub returns : goal.returns
returns c =
    let a = c.args in
    param_asked a.m.now (bytes_all a.m.now (λ k. omega (arith, c.type_inv.m k))) a.p (λ at q. ok (given_of at q.type q.argument)) (sym (ap told c.in_ok-at.was) ∙ c.find_param.ensures) (λ q d. ap ok (c.argument_at.ensures q d))
