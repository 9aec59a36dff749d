-- `fields::window` meets its contract: the entries from the first on, while they fit. Assumes nothing.
use mathlib.Core.Path.{◌∙◌}
use native.Mathlib.Omega.{arith}
use Rattle.tally.proofs.Tours.{bytes_all}
use Rattle.fields.proofs.Calls.{message_tiled, window_told}
use Rattle.fields.proofs.window.Goals as goal

pub returns : goal.returns
returns c =
    let a = c.args in
    let layout = c.kind_layout-layout in
    let tile = message_tiled layout.result a.m.now (bytes_all a.m.now c.type_inv.m) (omega arith) in
    let w = window_told a.out.now tile c.list_task-asked.ensures c.visit_all-toured.ensures in
    rw (← layout.ensures) (c.window_met.ensures ∙ w.0, w.1)
