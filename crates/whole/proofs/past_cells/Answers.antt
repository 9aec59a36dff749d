-- `whole::past_cells` meets its contract: what the cells that are left are answered is what all are. Assumes nothing.
use Prim.Native.Nat.{◌+◌, ◌/◌, ◌≤◌}
use native.Mathlib.Omega.{arith}
use mathlib.Core.Path.{◌≡◌, sym, ◌∙◌}
use mathlib.Core.Bool.{true}
use lib.ListN.{length, take}
use Rattle.steps.specs.State.{all_columns}
use Rattle.write.proofs.Tested.{all_next}
use Rattle.whole.proofs.Answers.{past_turn}
use Rattle.whole.proofs.Sures.{sure_column}
use Rattle.whole.proofs.past_cells.Goals as goal

pub loop-k-preserved : goal.loop-k-preserved
loop-k-preserved c =
    let a = c.args in
    let l = c.loop-k in
    let n = c.sure_size-n.result in
    let few : length a.cells.now / 2 ≤ length a.types.now = omega (arith, c.requires.2) in
    let i = l.invariant in
    let test = c.loop-k-test.true in
    let hi : l.at + n ≤ a.end = omega (arith, i.1, c.if-end-at.false) in
    let s = c.sure_size-n.ensures (omega (arith, c.if-n-eq0.false)) in
    let column = sure_column s in
    let all : all_columns (take (l.k + 1) a.types.now) ≡ true = sym (all_next a.types.now l.k (omega (arith, test, few))) ∙ rw (column, i.2) in
    (omega arith, hi, all, past_turn a.bytes.now a.cells.now a.types.now a.from a.end l.k l.at n few test i.0 hi s i.3)
