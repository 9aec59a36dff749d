-- `turn::turn_ring` meets its contract: the vertices behind the first, in reverse order. Assumes nothing.
use Prim.Native.Nat.{suc, ◌-◌}
use mathlib.Core.Path.{◌≡◌}
use lib.ListN.{length}
use native.Mathlib.Omega.{arith}
use Rattle.turn.proofs.Turns.{roomy, ring_turned, ring_size}
use Rattle.turn.proofs.turn_ring.Goals as goal

pub overflow_add-at : goal.overflow_add-at
overflow_add-at c =
    let a = c.args in
    let w = roomy c.requires.1 in
    omega (arith, w.count, w.few, w.fits)

pub four-requires : goal.four-requires
four-requires c =
    let a = c.args in
    let w = roomy c.requires.1 in
    omega (arith, w.count, w.few, w.fits)

pub overflow_sub-others : goal.overflow_sub-others
overflow_sub-others c =
    let a = c.args in
    let w = roomy c.requires.1 in
    omega (arith, w.count, w.few, w.fits, c.four.ensures.0)

pub overflow_add-second : goal.overflow_add-second
overflow_add-second c =
    let a = c.args in
    let w = roomy c.requires.1 in
    omega (arith, w.count, w.few, w.fits, c.four.ensures.0)

pub reverse_vertices-requires : goal.reverse_vertices-requires
reverse_vertices-requires c =
    let a = c.args in
    let w = roomy c.requires.1 in
    omega (arith, w.count, w.few, w.fits, c.four.ensures.0)

pub overflow_add-result : goal.overflow_add-result
overflow_add-result c =
    let a = c.args in
    let w = roomy c.requires.1 in
    omega (arith, w.count, w.few, w.fits, c.four.ensures.0)

pub overflow_add-result-2 : goal.overflow_add-result-2
overflow_add-result-2 c =
    let a = c.args in
    let w = roomy c.requires.1 in
    omega (arith, w.count, w.few, w.fits, c.four.ensures.0)

pub returns : goal.returns
returns c = λ r d.
    let a = c.args in
    let w = roomy d in
    let n = c.four.ensures.0 in
    let many : length r.vertices ≡ suc (c.four.result - 1) = omega (arith, w.count, w.few, n) in
    (omega (arith, ring_size d, w.count, w.few, n), ring_turned d (c.four.result - 1) many c.reverse_vertices.ensures)
