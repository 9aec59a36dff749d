-- `outline::at_ring` meets its contract: part by part. Assumes nothing.
use Rattle.outline.specs.State.{sound}
use Rattle.outline.proofs.at_ring.Goals as goal

pub returns : goal.returns
unfolding sound
returns c = cc
