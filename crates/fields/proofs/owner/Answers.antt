-- `fields::owner` meets its contract: the first field that ends past the byte. Assumes nothing.
use mathlib.Core.Path.{refl, ◌∙◌}
use native.Mathlib.Omega.{arith}
use lib.ListN.{replicate}
use Rattle.tally.proofs.Tours.{bytes_all}
use Rattle.fields.proofs.Calls.{message_tiled, owner_told}
use Rattle.fields.proofs.owner.Goals as goal

pub returns : goal.returns
returns c =
    let a = c.args in
    let layout = c.kind_layout-layout in
    let tile = message_tiled layout.result a.m.now (bytes_all a.m.now c.type_inv.m) (omega arith) in
    rw (← layout.ensures) (c.owner_met.ensures ∙ owner_told (replicate 6 0) refl tile c.list_task-asked.ensures c.visit_all-toured.ensures)
