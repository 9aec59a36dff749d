-- `inside::window` meets its contract: the entries from the first on, while they fit. Assumes nothing.
use mathlib.Core.Path.{◌∙◌}
use native.Mathlib.Omega.{arith}
use Rattle.tally.proofs.Tours.{bytes_all}
use Rattle.fields.proofs.Calls.{window_told}
use Rattle.inside.proofs.Bodies.{inside_tiled}
use Rattle.inside.proofs.window.Goals as goal

pub returns : goal.returns
returns c =
    let a = c.args in
    let tile = inside_tiled a.b.now (bytes_all a.b.now c.type_inv.b) (omega arith) in
    let w = window_told a.out.now tile c.list_task-asked.ensures c.visit_inside-toured.ensures in
    (c.window_met.ensures ∙ w.0, w.1)
