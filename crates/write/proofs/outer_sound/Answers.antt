-- `write::outer_sound` meets its contract: part by part. Assumes nothing.
use Rattle.steps.specs.State.{outer_sound}
use Rattle.write.proofs.outer_sound.Goals as goal

pub returns : goal.returns
unfolding outer_sound
returns c = cc
