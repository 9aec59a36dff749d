-- `write::message_sound` meets its contract: part by part. Assumes nothing.
use Rattle.steps.specs.State.{message_sound}
use Rattle.write.proofs.message_sound.Goals as goal

pub returns : goal.returns
unfolding message_sound
returns c = cc
