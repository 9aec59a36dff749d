-- `quick::past_value` meets its contract, type by type. Assumes nothing.
use mathlib.Core.Path.{◌≡◌, ap}
use mathlib.Core.Logic.{⊎_elim}
use native.Mathlib.Omega.{arith}
use mathlib.Core.Bool.{true}
use Rattle.format.specs.declared.Fault.TheVariants.{Decimal, Point}
use Rattle.format.specs.Format.{number, ruled}
use Rattle.format.specs.Text.{utf8}
use Rattle.format.specs.Value.{value, string, anything, not_empty, decimal_fine, point_fine}
use Rattle.scan.proofs.Values.{text_ends, binary_ends, geography_ends, decimal_ends, point_ends}
use Rattle.quick.specs.Past.{plain_of}
use Rattle.quick.proofs.Bodies.{plain_past, past_as, string_past}
use Rattle.quick.proofs.past_value.Goals as goal

pub returns-in-3 : goal.returns-in-3
returns-in-3 c = let a = c.args in plain_past a.s.now a.at a.t 1 (ap plain_of c.in-3.is) (omega arith) (omega arith)

pub returns-in-4 : goal.returns-in-4
returns-in-4 c = let a = c.args in plain_past a.s.now a.at a.t 2 (ap plain_of c.in-4.is) (omega arith) (omega arith)

pub returns-in-5 : goal.returns-in-5
returns-in-5 c = let a = c.args in plain_past a.s.now a.at a.t 4 (ap plain_of c.in-5.is) (omega arith) (omega arith)

pub returns-in-6 : goal.returns-in-6
returns-in-6 c =
    let a = c.args in
    let eight : plain_of a.t ≡ 8 = ⊎_elim (λ e. ap plain_of e) (λ w. ⊎_elim (λ e. ap plain_of e) (λ e. ap plain_of e) w) c.in-6.is in
    plain_past a.s.now a.at a.t 8 eight (omega arith) (omega arith)

pub returns-in-9 : goal.returns-in-9
returns-in-9 c =
    let a = c.args in
    past_as a.s.now a.at c.past_text.result ((string true utf8 0 0).read a.s.now a.at) ((value 0 0 a.t).read a.s.now a.at) (text_ends a.s.now a.at a.t c.in-9.is) c.past_text.ensures

pub returns-in-25 : goal.returns-in-25
returns-in-25 c =
    let a = c.args in
    past_as a.s.now a.at c.past_body.result ((string true anything 0 0).read a.s.now a.at) ((value 0 0 a.t).read a.s.now a.at) (binary_ends a.s.now a.at a.t c.in-25.is) (string_past a.s.now a.at c.past_body.result c.past_body.ensures)

pub returns-in-27 : goal.returns-in-27
returns-in-27 c =
    let a = c.args in
    past_as a.s.now a.at c.past_geography.result ((string true not_empty 0 0).read a.s.now a.at) ((value 0 0 a.t).read a.s.now a.at) (geography_ends a.s.now a.at a.t c.in-27.is) c.past_geography.ensures

pub returns-in-22 : goal.returns-in-22
returns-in-22 c =
    let a = c.args in
    past_as a.s.now a.at c.past_decimal.result ((ruled decimal_fine Decimal (number 16 0)).read a.s.now a.at) ((value 0 0 a.t).read a.s.now a.at) (decimal_ends a.s.now a.at a.t c.in-22.is) c.past_decimal.ensures

pub returns-in-26 : goal.returns-in-26
returns-in-26 c =
    let a = c.args in
    past_as a.s.now a.at c.past_point.result ((ruled point_fine Point (number 16 0)).read a.s.now a.at) ((value 0 0 a.t).read a.s.now a.at) (point_ends a.s.now a.at a.t c.in-26.is) c.past_point.ensures

pub returns-in_default : goal.returns-in_default
returns-in_default c = λ there. absurd (omega arith)
