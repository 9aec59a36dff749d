-- `areas::ring_kept` meets its contract: the bytes after the last vertex. Assumes nothing.
use Rattle.std.proofs.Common.{arith}
use Rattle.message.proofs.Parts.{bytes_all}
use Rattle.areas.proofs.Stands.{ring_found, kept_within, kept_told}
use Rattle.areas.proofs.ring_kept.Goals as goal

pub overflow_add-start : goal.overflow_add-start
overflow_add-start c =
    let a = c.args in
    let by = bytes_all a.b.now (λ k. (c.type_inv.b k).fits) in
    let f = ring_found a.b.now by a.n c.ring.ensures c.in_ok-r.was in
    omega (arith, kept_within f)

pub overflow_mul-start : goal.overflow_mul-start
overflow_mul-start c =
    let a = c.args in
    let by = bytes_all a.b.now (λ k. (c.type_inv.b k).fits) in
    let f = ring_found a.b.now by a.n c.ring.ensures c.in_ok-r.was in
    omega (arith, kept_within f)

pub overflow_add-start-2 : goal.overflow_add-start-2
overflow_add-start-2 c =
    let a = c.args in
    let by = bytes_all a.b.now (λ k. (c.type_inv.b k).fits) in
    let f = ring_found a.b.now by a.n c.ring.ensures c.in_ok-r.was in
    omega (arith, kept_within f)

pub returns : goal.returns
returns c =
    let a = c.args in
    let by = bytes_all a.b.now (λ k. (c.type_inv.b k).fits) in
    let f = ring_found a.b.now by a.n c.ring.ensures c.in_ok-r.was in
    kept_told f
