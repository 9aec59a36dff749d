-- `numbers::load` meets its contract: each number in its place, the stage and the element type by what they are taken as. Assumes nothing.
use Rattle.numbers.proofs.load.Goals as goal

pub returns : goal.returns
returns c = rw (c.stage_of.ensures, c.byte_of.ensures)
