-- `query::find_cell` meets its contract: the refusal, or the value that stands at the cell's spot, shown.
use Rattle.format.proofs.Results.{handed_on}
use mathlib.Core.Path.{◌∙◌, sym, ap}
use native.Mathlib.Omega.{arith}
use Rattle.format.specs.Result.{ok, told}
use Rattle.query.specs.Shown.{shown_of}
use Rattle.query.proofs.Opened.{bytes_all, spotted, not_spotted, spot_shown}
use Rattle.query.proofs.find_cell.Goals as goal

pub returns-in_err-spot : goal.returns-in_err-spot
returns-in_err-spot c =
    let a = c.args in
    ap told (handed_on c.from_residual.ensures) ∙ not_spotted a.timed a.m.now a.t a.k a.c (λ h. ok (shown_of h)) (sym (ap told c.in_err-spot.was) ∙ c.find_spot.ensures)

pub returns : goal.returns
returns c =
    let a = c.args in
    let all = bytes_all a.m.now (λ k. omega (arith, c.type_inv.m k)) in
    let w = spotted a.timed a.m.now a.t a.k a.c all (sym (ap told c.in_ok-spot.was) ∙ c.find_spot.ensures) in
    spot_shown a.timed a.m.now a.t a.k a.c w c.value_at-cell.ensures
