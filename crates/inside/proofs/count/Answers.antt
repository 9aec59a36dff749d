-- `inside::count` meets its contract: the tour has seen each field once. Assumes nothing.
use mathlib.Core.Path.{◌∙◌}
use native.Mathlib.Omega.{arith}
use lib.ListN.{replicate}
use Rattle.tally.proofs.Tours.{bytes_all}
use Rattle.fields.proofs.Calls.{count_told}
use Rattle.inside.proofs.Bodies.{inside_tiled}
use Rattle.inside.proofs.count.Goals as goal

pub returns : goal.returns
returns c =
    let a = c.args in
    let tile = inside_tiled a.b.now (bytes_all a.b.now c.type_inv.b) (omega arith) in
    c.count_met.ensures ∙ count_told (replicate 6 0) tile c.list_task-asked.ensures c.visit_inside-toured.ensures
