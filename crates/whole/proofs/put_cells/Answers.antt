-- `whole::put_cells` meets its contract: what was written, with the cells that are left, is what all come to. Assumes nothing.
use Prim.Native.Nat.{◌/◌}
use native.Mathlib.Omega.{arith}
use mathlib.Core.Path.{◌∙◌}
use lib.ListN.{length}
use borrow.Author.Rules.{rules}
use Rattle.whole.proofs.Lays.{fit_next, lay_turn, lay_end}
use Rattle.whole.proofs.put_cells.Goals as goal

pub put_cell-at-requires : goal.put_cell-at-requires
put_cell-at-requires c =
    let a = c.args in
    let l = c.loop-k in
    (fit_next a.bytes.now a.types.now a.cells.now (length a.cells.now / 2) l.k l.at (length l.out) c.loop-k-test.true l.invariant.0).0

pub loop-k-preserved : goal.loop-k-preserved
loop-k-preserved c =
    let a = c.args in
    let l = c.loop-k in
    lay_turn a.bytes.now a.types.now a.cells.now (length a.cells.now / 2) l.k l.at l.out c.loop-k-test.true l.invariant.0 l.invariant.1 c.put_cell-at.ensures (search rules)

pub returns : goal.returns
returns c =
    let a = c.args in
    let l = c.loop-k in
    lay_end a.bytes.now a.types.now a.cells.now (length a.cells.now / 2) l.k l.at l.out (omega (arith, c.loop-k-test.false)) ∙ l.invariant.1
