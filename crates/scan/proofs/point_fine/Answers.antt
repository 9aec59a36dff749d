-- `scan::point_fine` meets its contract: a position is fine, and what is none is fine if it is null. Assumes nothing.
use mathlib.Core.Path.{sym, ap, ◌∙◌}
use mathlib.Core.Bool.{Bool, ◌||◌}
use Prim.Native.Nat.{◌+◌, ◌*◌, ◌^◌}
use Rattle.format.specs.Value.{is_null_point}
use Rattle.scan.proofs.point_fine.Goals as goal

pub returns-then-is_position : goal.returns-then-is_position
returns-then-is_position c =
    let a = c.args in
    c.if-is_position.true ∙ sym (ap (λ (b : Bool). b || is_null_point (a.longitude * 2 ^ 64 + a.latitude)) (sym c.is_position.ensures ∙ c.if-is_position.true))

pub returns-else-is_position : goal.returns-else-is_position
returns-else-is_position c =
    let a = c.args in
    c.is_null_point.ensures ∙ sym (ap (λ (b : Bool). b || is_null_point (a.longitude * 2 ^ 64 + a.latitude)) (sym c.is_position.ensures ∙ c.if-is_position.false))
