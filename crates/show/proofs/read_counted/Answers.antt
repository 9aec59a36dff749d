-- `show::read_counted` meets its contract: a body, or null.
use Rattle.std.specs.Prelude.{Ok}
use mathlib.Core.Path.{◌≡◌, sym, ap, ap₂, ◌∙◌}
use mathlib.Core.Bool.{true}
use Prim.Native.Nat.{◌-◌}
use lib.ListN.{length}
use native.Mathlib.Omega.{arith}
use Rattle.format.specs.Value.{string, anything, most_bytes}
use Rattle.show.specs.declared.Cell.{Cell}
use Rattle.show.specs.Cells.{part_cell, body_cell, shown_as}
use Rattle.scan.proofs.Answers.{body_go}
use Rattle.scan.proofs.Counted.{here}
use Rattle.show.proofs.Bodies.{stood}
use Rattle.show.proofs.read_counted.Goals as goal

pub overflow_sub-end : goal.overflow_sub-end
overflow_sub-end c = (here true most_bytes c.args.s.now c.args.at c.read_body.ensures c.in_ok-start.was c.in-Is.is).order

pub returns-in-Is : goal.returns-in-Is
returns-in-Is c =
    let a = c.args in
    let r = (string true anything 0 0).read a.s.now a.at in
    let go = body_go a.at r c.read_body.ensures (c.in_ok-start.was ∙ ap Ok c.in-Is.is) in
    let h = stood true most_bytes anything 0 0 a.s.now a.at go.1 in
    let end = c.in-Is.end in
    let size : end - c.in-Is.start ≡ length go.0 = omega (arith, h.far, go.2) in
    ap (λ (x : Cell). Ok (x, end)) (c.part_cell.ensures ∙ ap₂ (part_cell a.t) go.2 size) ∙ sym (ap (shown_as (body_cell a.t a.at)) go.1)
