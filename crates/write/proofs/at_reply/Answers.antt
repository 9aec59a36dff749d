-- `write::at_reply` meets its contract: part by part. Assumes nothing.
use Rattle.steps.specs.State.{sound}
use Rattle.write.proofs.at_reply.Goals as goal

pub returns : goal.returns
unfolding sound
returns c = cc
