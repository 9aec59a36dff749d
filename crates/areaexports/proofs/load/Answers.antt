-- `areaexports::load` meets its contract: each number in its place, the stage by what it is taken as.
use Rattle.areaexports.proofs.load.Goals as goal

pub returns : goal.returns
returns c = rw c.stage_of.ensures
