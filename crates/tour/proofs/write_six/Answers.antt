-- `tour::write_six` meets its contract: six stores in a row. Assumes nothing.
use Rattle.std.proofs.Common.{◌*◌, arith, length-set}
use Rattle.tour.proofs.Acts.{stores}
use Rattle.tour.proofs.write_six.Goals as goal

pub bounds-out-p-2 : goal.bounds-out-p-2
bounds-out-p-2 c = simp length-set (omega arith)

pub bounds-out-p-3 : goal.bounds-out-p-3
bounds-out-p-3 c = simp length-set (omega arith)

pub bounds-out-p-4 : goal.bounds-out-p-4
bounds-out-p-4 c = simp length-set (omega arith)

pub bounds-out-p-5 : goal.bounds-out-p-5
bounds-out-p-5 c = simp length-set (omega arith)

pub bounds-out-p-6 : goal.bounds-out-p-6
bounds-out-p-6 c = simp length-set (omega arith)

pub returns : goal.returns
returns c = let a = c.args in stores a.out.now (6 * a.taken) a.at a.size a.field a.ix.i a.ix.j a.ix.k
