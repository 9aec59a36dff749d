-- `tour::walk_value` meets its contract: a body's types, and the others. Assumes nothing.
use Rattle.tally.proofs.Tours.{bytes_all}
use Rattle.tally.proofs.Values.{counted_type, fixed_type, walked_body, walked_plain}
use Rattle.tour.proofs.walk_value.Goals as goal

pub returns-in-9 : goal.returns-in-9
returns-in-9 c = let a = c.args in walked_body a.s.now (bytes_all a.s.now c.type_inv.s) a.prefix a.body a.t (counted_type _ c.in-9.is) c.walk_body.ensures

pub returns-in_default : goal.returns-in_default
returns-in_default c =
    let a = c.args in
    let n = c.in_default.in_default-own.rest in
    walked_plain a.s.now (bytes_all a.s.now c.type_inv.s) a.prefix a.body a.t (fixed_type _ n.1) (rw c.width_of.ensures at c.walk_fixed.ensures)
