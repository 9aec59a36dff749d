-- `query::find_element` meets its contract: the refusal of the place, or the element there.
use mathlib.Core.Path.{◌∙◌, sym, ap}
use native.Mathlib.Omega.{arith}
use Rattle.format.specs.Result.{ok, bind, told}
use Rattle.places.specs.Entries.{element_of}
use Rattle.query.specs.Shown.{shown_of}
use Rattle.query.proofs.Opened.{bytes_all}
use Rattle.query.proofs.Calls.{param_asked}
use Rattle.query.proofs.find_element.Goals as goal

pub returns : goal.returns
returns c =
    let a = c.args in
    param_asked a.m.now (bytes_all a.m.now (λ k. omega (arith, c.type_inv.m k))) a.p (λ at q. bind (element_of at q.argument a.e) (λ h. ok (shown_of h))) (sym (ap told c.in_ok-at.was) ∙ c.find_param.ensures) c.element_at.ensures
