-- `turn::mend_vertices` meets its contract: one vertex more is put into its own order. Assumes nothing.
use Prim.Native.Nat.{suc, ◌+◌, ◌-◌, ◌*◌}
use mathlib.Core.Path.{◌≡◌}
use mathlib.Core.List.{reverse}
use native.Mathlib.Omega.{arith}
use Rattle.turn.specs.Turning.{Block, itself}
use Rattle.turn.proofs.Changes.{all_changed}
use Rattle.turn.proofs.Reversals.{lent_reversed, mended}
use Rattle.turn.proofs.mend_vertices.Goals as goal

pub loop-i-preserved : goal.loop-i-preserved
loop-i-preserved c = λ target h.
    let a = c.args in
    let l = c.loop-i in
    let at = a.from + 24 * l.i in
    let left : a.n - l.i ≡ suc (a.n - (l.i + 1)) = omega (arith, c.loop-i-test.true) in
    mended l.b target at _ (a.n - (l.i + 1)) (omega arith) (rw left at (l.invariant target h)) (lent_reversed l.b at (at + 24) (omega arith) c.reverse.ensures.after)

pub returns : goal.returns
returns c = λ target h.
    let l = c.loop-i in
    let done : c.args.n - l.i ≡ 0 = omega (arith, c.loop-i-test.false) in
    all_changed reverse itself Block (rw done at (l.invariant target h))
