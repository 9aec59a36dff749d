-- `query::find_value` meets its contract: the refusal of the place, or the value there.
use mathlib.Core.Path.{◌∙◌, sym, ap}
use native.Mathlib.Omega.{arith}
use Rattle.format.specs.Result.{ok, bind, told}
use Rattle.places.specs.Entries.{value_here}
use Rattle.query.specs.Shown.{shown_of}
use Rattle.query.proofs.Opened.{bytes_all}
use Rattle.query.proofs.Calls.{param_asked}
use Rattle.query.proofs.find_value.Goals as goal

pub returns : goal.returns
returns c =
    let a = c.args in
    param_asked a.m.now (bytes_all a.m.now (λ k. omega (arith, c.type_inv.m k))) a.p (λ at q. bind (value_here at q.type q.argument) (λ h. ok (shown_of h))) (sym (ap told c.in_ok-at.was) ∙ c.find_param.ensures) c.one_at.ensures
