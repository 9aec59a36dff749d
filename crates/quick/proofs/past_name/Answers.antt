-- `quick::past_name` meets its contract: a body that is there, and whose bytes the rule of names permits. Assumes nothing.
use native.Mathlib.Omega.{arith}
use Rattle.format.specs.Value.{most_bytes}
use Rattle.quick.proofs.Bodies.{sure, name_reads}
use Rattle.quick.proofs.past_name.Goals as goal

pub returns-in_default : goal.returns-in_default
returns-in_default c = λ there. absurd (omega arith)

pub slice_bounds-is_surely_name-count : goal.slice_bounds-is_surely_name-count
slice_bounds-is_surely_name-count c =
    let a = c.args in
    let is = sure a.s.now a.at most_bytes c.sure_body.ensures c.in-Some.is in
    omega (arith, is.0, is.1)

pub slice_bounds-is_surely_name-start : goal.slice_bounds-is_surely_name-start
slice_bounds-is_surely_name-start c =
    let a = c.args in
    let is = sure a.s.now a.at most_bytes c.sure_body.ensures c.in-Some.is in
    omega (arith, is.0, is.1)

pub slice_bounds-is_surely_name-end : goal.slice_bounds-is_surely_name-end
slice_bounds-is_surely_name-end c =
    let a = c.args in
    (sure a.s.now a.at most_bytes c.sure_body.ensures c.in-Some.is).3

pub returns-then-is_surely_name : goal.returns-then-is_surely_name
returns-then-is_surely_name c =
    let a = c.args in
    λ there. name_reads a.s.now a.at most_bytes c.sure_body.ensures c.in-Some.is (omega arith) (c.is_surely_name.ensures c.if-is_surely_name.true)

pub returns-else-is_surely_name : goal.returns-else-is_surely_name
returns-else-is_surely_name c = λ there. absurd (omega arith)
