-- `put::copy_eight` meets its contract: eight stores, one after the other, are one put of eight bytes. Assumes nothing.
use native.Mathlib.Omega.{arith}
use lib.ListN.{length-set}
use Rattle.put.proofs.Laws.{eight_copied}
use Rattle.put.proofs.copy_eight.Goals as goal

pub bounds-out-i-2 : goal.bounds-out-i-2
bounds-out-i-2 c = simp length-set (omega arith)

pub bounds-out-i-3 : goal.bounds-out-i-3
bounds-out-i-3 c = simp length-set (omega arith)

pub bounds-out-i-4 : goal.bounds-out-i-4
bounds-out-i-4 c = simp length-set (omega arith)

pub bounds-out-i-5 : goal.bounds-out-i-5
bounds-out-i-5 c = simp length-set (omega arith)

pub bounds-out-i-6 : goal.bounds-out-i-6
bounds-out-i-6 c = simp length-set (omega arith)

pub bounds-out-i-7 : goal.bounds-out-i-7
bounds-out-i-7 c = simp length-set (omega arith)

pub bounds-out-i-8 : goal.bounds-out-i-8
bounds-out-i-8 c = simp length-set (omega arith)

pub shape_of-out : goal.shape_of-out
shape_of-out c = simp length-set

pub returns : goal.returns
returns c =
    eight_copied c.args.out.now c.args.s.now c.args.i c.requires.0 c.requires.1
