-- The questions to a body: how many rings it has, a ring, a vertex, the bytes that are kept. The body's own refusal comes first, then 11.
use Rattle.std.specs.Prelude.{ℕ, ◌+◌, List, [], ◌∷◌, length, take, Result, Ok, Err}
use Rattle.std.proofs.Math.Option.{Option, some}
use Rattle.format.specs.declared.Refusal.{Refusal}
use Rattle.format.specs.Result.{Res, ok, no, bind}
use Rattle.format.specs.Number.{num_at}
use Rattle.format.specs.Geography.{Vertex, Ring, Polygon, ring, polygon, ring_kept, body_kept, read_polygon}
use Rattle.show.specs.declared.Cell.{Cell}
use Rattle.places.specs.Entries.{entry}
use Rattle.areas.specs.declared.RingLayout.{RingLayout}

-- ring n: after the three leading bytes, the ring count and the rings before it. A part stands where the body would end if it were cut there
unfoldable pub ring_state : Polygon → ℕ → ℕ
ring_state p n = length (polygon.bytes (record { edition = p.edition; internal = p.internal; holes = p.holes; rings = take n p.rings; kept = [] }))

-- vertex v of a ring at a place: after the ring's byte, the vertex count and the vertices before it; after the last one, what the ring keeps
unfoldable pub vertex_at : ℕ → Ring → ℕ → ℕ
vertex_at at r v = at + length (ring.bytes (record { mark = r.mark; vertices = take v r.vertices; kept = [] }))

abbrev pub ask_rings : List ℕ → Res ℕ
ask_rings b = bind (read_polygon b) (λ p. ok (length p.rings))

module _ {A : Type 0} where
  -- what is asked of ring n, by its place and what it is
  abbrev pub of_ring : List ℕ → ℕ → (ℕ → Ring → Res A) → Res A
  of_ring b n ask = bind (read_polygon b) (λ p. bind (entry p.rings n) (λ r. ask (ring_state p n) r))

abbrev pub layout_at : ℕ → Ring → RingLayout
layout_at at r = record { at = at; mark = r.mark; vertices = length r.vertices }

abbrev pub ask_ring : List ℕ → ℕ → Res RingLayout
ask_ring b n = of_ring b n (λ at r. ok (layout_at at r))

abbrev pub ask_vertex : List ℕ → ℕ → ℕ → Res Vertex
ask_vertex b n v = of_ring b n (λ at r. entry r.vertices v)

-- where the kept bytes start, and how many they are
abbrev pub ask_ring_kept : List ℕ → ℕ → Res (Option (ℕ × ℕ))
ask_ring_kept b n = of_ring b n (λ at r. ok (some (vertex_at at r (length r.vertices), ring_kept)))

abbrev pub ask_kept : List ℕ → Res (Option (ℕ × ℕ))
ask_kept b = bind (read_polygon b) (λ p. ok (some (ring_state p (length p.rings), body_kept)))

abbrev pub told_bits : Result (ℕ × ℕ × ℕ) Refusal → Res Vertex
told_bits (Ok (x, y, z)) = ok (x ∷ y ∷ z ∷ [])
told_bits (Err r) = no r.fault r.place

abbrev pub told_vertex : Result (Cell × Cell × Cell) Refusal → Res (List Cell)
told_vertex (Ok (x, y, z)) = ok (x ∷ y ∷ z ∷ [])
told_vertex (Err r) = no r.fault r.place

-- what the bytes at a place say of a ring there
abbrev pub ring_in : List ℕ → ℕ → RingLayout
ring_in s at = record { at = at; mark = num_at 1 s at; vertices = num_at 4 s (at + 1) }

-- and of a vertex
abbrev pub bits_in : List ℕ → ℕ → ℕ × ℕ × ℕ
bits_in s at = (num_at 8 s at, num_at 8 s (at + 8), num_at 8 s (at + 16))
