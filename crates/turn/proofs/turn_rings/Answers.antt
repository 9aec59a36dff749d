-- `turn::turn_rings` meets its contract: one ring more is turned, and the others are left. Assumes nothing.
use Prim.Native.Nat.{suc, ◌+◌, ◌-◌}
use mathlib.Core.Path.{◌≡◌}
use native.Mathlib.Omega.{arith}
use Rattle.format.specs.Geography.{ring, turned_ring}
use Rattle.turn.proofs.Changes.{all_changed}
use Rattle.turn.proofs.Turns.{ring_left, ring_done}
use Rattle.turn.proofs.turn_rings.Goals as goal

pub turn_ring-at-requires : goal.turn_ring-at-requires
turn_ring-at-requires c =
    let a = c.args in
    let l = c.loop in
    let left : a.n - l.counter ≡ suc (a.n - (l.counter + 1)) = omega (arith, c.loop-test.true) in
    ring_left (rw left at l.invariant.0.1)

pub loop-preserved : goal.loop-preserved
loop-preserved c =
    let a = c.args in
    let l = c.loop in
    let turn = c.turn_ring-at.ensures in
    let left : a.n - l.counter ≡ suc (a.n - (l.counter + 1)) = omega (arith, c.loop-test.true) in
    ((l.invariant.0.0, ring_done (rw left at l.invariant.0.1) turn), λ target h. ring_done (rw left at (l.invariant.1 target h)) turn)

pub returns : goal.returns
returns c = λ target h.
    let l = c.loop in
    let done : c.args.n - l.counter ≡ 0 = omega (arith, c.loop-test.false) in
    all_changed ring.bytes (λ r. ring.bytes (turned_ring r)) ring.Good (rw done at (l.invariant.1 target h))
