-- `query::cell_place` meets its contract: the refusal, or the part from the cell's spot to where its value ends.
use mathlib.Core.Bool.{true}
use mathlib.Core.Path.{◌∙◌, sym, ap}
use native.Mathlib.Omega.{arith}
use Rattle.format.specs.Result.{told}
use Rattle.query.proofs.Opened.{bytes_all, spotted, spot_ends, spot_placed}
use Rattle.query.proofs.cell_place.Goals as goal

pub overflow_sub-result : goal.overflow_sub-result
overflow_sub-result c =
    let a = c.args in
    let all = bytes_all a.m.now (λ k. omega (arith, c.type_inv.m k)) in
    let w = spotted true a.m.now a.t a.k a.c all (sym (ap told c.in_ok-spot.was) ∙ c.find_spot.ensures) in
    omega (arith, spot_ends true a.m.now a.t a.k a.c w (c.pass_value-end.ensures 50 51))

pub returns : goal.returns
returns c =
    let a = c.args in
    let all = bytes_all a.m.now (λ k. omega (arith, c.type_inv.m k)) in
    let w = spotted true a.m.now a.t a.k a.c all (sym (ap told c.in_ok-spot.was) ∙ c.find_spot.ensures) in
    spot_placed true a.m.now a.t a.k a.c w (omega (arith, spot_ends true a.m.now a.t a.k a.c w (c.pass_value-end.ensures 50 51)))
