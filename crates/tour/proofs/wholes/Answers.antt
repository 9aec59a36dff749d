-- `tour::wholes` meets its contract. Assumes nothing.
use Rattle.std.proofs.Common.{div-mul-le_self}
use Rattle.tour.proofs.wholes.Goals as goal

pub returns : goal.returns
returns c = div-mul-le_self _ _
