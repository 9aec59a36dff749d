-- `scan::skip_value` meets its contract, type by type. Assumes nothing.
use mathlib.Core.Path.{ap, ◌∙◌}
use Prim.Native.Nat.{ℕ}
use Rattle.format.specs.Format.{number}
use Rattle.scan.specs.Shown.{shown_next}
use Rattle.scan.proofs.Values.{text_ends, binary_ends, geography_ends, decimal_ends, point_ends, plain_ends}
use Rattle.scan.proofs.skip_value.Goals as goal

pub returns-in-9 : goal.returns-in-9
returns-in-9 c = c.skip_text.ensures ∙ text_ends _ _ _ c.in-9.is

pub returns-in-25 : goal.returns-in-25
returns-in-25 c = c.skip_body.ensures ∙ binary_ends _ _ _ c.in-25.is

pub returns-in-27 : goal.returns-in-27
returns-in-27 c = c.skip_geography.ensures ∙ geography_ends _ _ _ c.in-27.is

pub returns-in-22 : goal.returns-in-22
returns-in-22 c = c.skip_decimal.ensures ∙ decimal_ends _ _ _ c.in-22.is

pub returns-in-26 : goal.returns-in-26
returns-in-26 c = c.skip_point.ensures ∙ point_ends _ _ _ c.in-26.is

pub returns-in_default : goal.returns-in_default
returns-in_default c =
    let a = c.args in
    let n = c.in_default.in_default-own.rest in
    c.skip_fixed.ensures ∙ ap (λ (k : ℕ). shown_next ((number k 0).read a.s.now a.at)) c.width_of.ensures
    ∙ plain_ends _ _ _ n.0.0.0.0.1 n.0.0.0.1 n.0.0.1 n.0.1 n.1
