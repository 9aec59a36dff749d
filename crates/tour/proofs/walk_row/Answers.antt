-- `tour::walk_row` meets its contract: a room, and the cells in it. Assumes nothing.
use Rattle.tally.proofs.Tours.{bytes_all}
use Rattle.tally.proofs.Tables.{walked_row}
use Rattle.tour.proofs.walk_row.Goals as goal

pub returns : goal.returns
returns c = let a = c.args in walked_row a.s.now (bytes_all a.s.now c.type_inv.s) a.types.now c.walk_fixed-cells.ensures c.walk_cells.ensures
