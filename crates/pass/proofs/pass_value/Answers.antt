-- `pass::pass_value` meets its contract: a body's types, and the others.
use Rattle.pass.proofs.Values.{passes_body, passes_plain}
use Rattle.pass.proofs.pass_value.Goals as goal

pub returns-in-9 : goal.returns-in-9
returns-in-9 c = λ l b. let a = c.args in passes_body a.s.now l b a.t c.in-9.is c.pass_body.ensures

pub returns-in_default : goal.returns-in_default
returns-in_default c = λ l b. let a = c.args in passes_plain a.s.now l b a.t c.in_default.in_default-own.rest.1 (rw c.width_of.ensures at (c.pass_fixed.ensures b))
