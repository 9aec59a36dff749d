-- `write::at_array` meets its contract: part by part. Assumes nothing.
use Rattle.steps.specs.State.{sound}
use Rattle.write.proofs.at_array.Goals as goal

pub returns : goal.returns
unfolding sound
returns c = cc
