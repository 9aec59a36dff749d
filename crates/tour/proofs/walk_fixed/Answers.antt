-- `tour::walk_fixed` meets its contract: a field from the tour's place to the place past its bytes. Assumes nothing.
use Rattle.tally.proofs.Tours.{walked_number}
use Rattle.tour.proofs.walk_fixed.Goals as goal

pub returns : goal.returns
returns c = let a = c.args in walked_number a.s.now a.width a.field c.bytes_on-end.ensures c.visit.ensures
