-- `tally::tally_value` meets its contract: a body's types, and the others. Assumes nothing.
use Rattle.tally.proofs.Tours.{bytes_all}
use Rattle.tally.proofs.Values.{counted_type, fixed_type, walked_body, walked_plain}
use Rattle.tally.proofs.tally_value.Goals as goal

pub returns-in-9 : goal.returns-in-9
returns-in-9 c =
    let a = c.args in
    record { walks = λ ix. walked_body a.s.now (bytes_all a.s.now c.type_inv.s) 50 51 a.t (counted_type _ c.in-9.is) (λ nullable rule. (c.tally_body.ensures nullable rule 50 51).walks ix) }

pub returns-in_default : goal.returns-in_default
returns-in_default c =
    let a = c.args in
    record { walks = λ ix. walked_plain a.s.now (bytes_all a.s.now c.type_inv.s) 50 51 a.t (fixed_type _ c.in_default.in_default-own.rest.1) (rw c.width_of.ensures at ((c.tally_fixed.ensures 51).walks ix)) }
