-- `inside::field` meets its contract: a window of one entry. Assumes nothing.
use mathlib.Core.Path.{refl, ◌∙◌}
use native.Mathlib.Omega.{arith}
use lib.ListN.{replicate}
use Rattle.tally.proofs.Tours.{bytes_all}
use Rattle.fields.proofs.Calls.{field_told}
use Rattle.inside.proofs.Bodies.{inside_tiled}
use Rattle.inside.proofs.field.Goals as goal

pub returns : goal.returns
returns c =
    let a = c.args in
    let tile = inside_tiled a.b.now (bytes_all a.b.now c.type_inv.b) (omega arith) in
    c.field_met.ensures ∙ field_told (replicate 6 0) refl tile c.list_task-asked.ensures c.visit_inside-toured.ensures
