-- `areas::vertex_bits` meets its contract: a vertex stands after 24 bytes for each before it. Assumes nothing.
use Rattle.std.proofs.Common.{ℕ, sym, ap, ◌∙◌, arith}
use Rattle.std.specs.Prelude.{Ok}
use Rattle.message.proofs.Parts.{bytes_all}
use Rattle.areas.specs.Answers.{told_bits}
use Rattle.areas.proofs.Stands.{ring_found, vertex_within, vertex_told, vertex_past, past_told}
use Rattle.areas.proofs.vertex_bits.Goals as goal

pub returns-then-r-v : goal.returns-then-r-v
returns-then-r-v c =
    let a = c.args in
    let by = bytes_all a.b.now (λ k. (c.type_inv.b k).fits) in
    let f = ring_found a.b.now by a.n c.ring.ensures c.in_ok-r.was in
    past_told c.past_end.ensures ∙ sym (vertex_past f a.v c.if-r-v.true)

pub overflow_add-r : goal.overflow_add-r
overflow_add-r c =
    let a = c.args in
    let by = bytes_all a.b.now (λ k. (c.type_inv.b k).fits) in
    let f = ring_found a.b.now by a.n c.ring.ensures c.in_ok-r.was in
    omega (arith, vertex_within f a.v c.if-r-v.false)

pub overflow_mul-v : goal.overflow_mul-v
overflow_mul-v c =
    let a = c.args in
    let by = bytes_all a.b.now (λ k. (c.type_inv.b k).fits) in
    let f = ring_found a.b.now by a.n c.ring.ensures c.in_ok-r.was in
    omega (arith, vertex_within f a.v c.if-r-v.false)

pub overflow_add-r-2 : goal.overflow_add-r-2
overflow_add-r-2 c =
    let a = c.args in
    let by = bytes_all a.b.now (λ k. (c.type_inv.b k).fits) in
    let f = ring_found a.b.now by a.n c.ring.ensures c.in_ok-r.was in
    omega (arith, vertex_within f a.v c.if-r-v.false)

pub bits_at-requires : goal.bits_at-requires
bits_at-requires c =
    let a = c.args in
    let by = bytes_all a.b.now (λ k. (c.type_inv.b k).fits) in
    let f = ring_found a.b.now by a.n c.ring.ensures c.in_ok-r.was in
    vertex_within f a.v c.if-r-v.false

pub returns : goal.returns
returns c =
    let a = c.args in
    let by = bytes_all a.b.now (λ k. (c.type_inv.b k).fits) in
    let f = ring_found a.b.now by a.n c.ring.ensures c.in_ok-r.was in
    ap (λ (x : ℕ × ℕ × ℕ). told_bits (Ok x)) c.bits_at.ensures ∙ vertex_told f a.v c.if-r-v.false
