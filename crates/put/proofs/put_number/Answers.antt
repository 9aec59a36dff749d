-- `put::put_number` meets its contract: each of its ways writes the bytes. Assumes nothing.
use Rattle.put.proofs.put_number.Goals as goal

pub returns-then-k-eq8 : goal.returns-then-k-eq8
returns-then-k-eq8 c = rw c.if-k-eq8.true c.put_eight.ensures

pub returns-then-k-eq4 : goal.returns-then-k-eq4
returns-then-k-eq4 c = rw c.if-k-eq4.true c.put_four.ensures
