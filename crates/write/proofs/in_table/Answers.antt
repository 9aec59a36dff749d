-- `write::in_table` meets its contract: the columns that are seen are counted. Assumes nothing.
use Rattle.write.proofs.in_table.Goals as goal

pub returns : goal.returns
returns c = cc
