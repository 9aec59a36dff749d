-- The walks over a ring and over a body, each made from the walks over its fields.
use Prim.Native.Nat.{ℕ}
use mathlib.Core.Path.{◌≡◌, ◌∙◌, ap}
use mathlib.Core.List.{List}
use lib.ListN.{replicate}
use lib.Dec.{leb, ltb, eqb}
use Rattle.format.specs.declared.Fault.TheVariants.{Negative, Geography}
use Rattle.format.specs.Result.{ok}
use Rattle.format.specs.Number.{Bytes, half}
use Rattle.format.specs.Format.{Format, Index, number, block, ruled, both, each}
use Rattle.format.specs.Message.{first, second}
use Rattle.format.specs.Geography.{Vertex, vertex, Ring, ring, at_least, ringed, holes_of, polygon, ring_kept, body_kept, fewest_vertices}
use Rattle.format.proofs.Results.{ok_same, bound}
use Rattle.format.proofs.Laws.{Lawful, lawful_number, lawful_block, lawful_ruled, lawful_both, lawful_each, all_replicate}
use Rattle.format.proofs.Geography.{lawful_vertex, lawful_ring, ring_back, polygon_back}
use Rattle.tally.specs.declared.Tour.{Tour}
use Rattle.tally.specs.Walks.{Walked}
use Rattle.tally.proofs.Tours.{walked_ruled, walked_into, walked_both, walked_then}
use Rattle.tally.proofs.Values.{ruled_read}

-- how each format here is made
ruleset laws = (lawful_number, lawful_block, lawful_ruled, lawful_both, lawful_each, lawful_vertex, lawful_ring, all_replicate)

-- a ring from its vertices on, and from its byte on
abbrev pub outlined : ℕ → Format (List Vertex × List ℕ)
outlined n = both (each second 0 (replicate n vertex)) (λ vs. block ring_kept 67)

abbrev pub marked : Format (ℕ × (ℕ × (List Vertex × List ℕ)))
marked = both (number 1 64) (λ m. both (at_least fewest_vertices 65) outlined)

-- a body from its rings on, from its third byte on, and from its first byte on
abbrev pub filled : ℕ → Format (List Ring × List ℕ)
filled n = both (each first 0 (replicate n ring)) (λ rs. block body_kept 68)

abbrev pub holed : Format ((ℕ × ℕ) × (List Ring × List ℕ))
holed = both ringed (λ h. filled h.1)

abbrev pub led : Format (ℕ × (ℕ × ((ℕ × ℕ) × (List Ring × List ℕ))))
led = both (number 1 60) (λ e. both (number 1 61) (λ i. holed))

pub lawful_vertices : (n : ℕ) → Lawful (each second 0 (replicate n vertex))
lawful_vertices n = search laws

pub lawful_rings : (n : ℕ) → Lawful (each first 0 (replicate n ring))
lawful_rings n = search laws

pub lawful_least : (few field : ℕ) → Lawful (at_least few field)
lawful_least few field = search laws

-- the third byte by itself, and with the ring count
abbrev holes_byte : Format ℕ
holes_byte = ruled (λ b. leb b 1) Geography (number 1 62)

lawful_holes_byte : Lawful holes_byte
lawful_holes_byte = search laws

lawful_ringed : Lawful ringed
lawful_ringed = search laws depth 8

-- what was read as a count was read as a number
least_read : (few field : ℕ) (s : List ℕ) (at n next : ℕ) → (at_least few field).read s at ≡ ok (n, next) → (number 4 0).read s at ≡ ok (n, next)
unfolding number
least_read few field s at n next e = ruled_read (λ m. ltb m (half 4)) Negative (number 4 field) s at (ruled_read (λ m. leb few m) Geography _ s at e)

pub least_told : (s : List ℕ) (few field at : ℕ) {n : ℕ} → ((m next : ℕ) → (number 4 0).read s at ≡ ok (m, next) → n ≡ m) → (m next : ℕ) → (at_least few field).read s at ≡ ok (m, next) → n ≡ m
least_told s few field at told m next e = told m next (least_read few field s at m next e)

module _ (s : List ℕ) {ix : Index} {tour : Tour} {out : List ℕ} {after : Tour} {written : List ℕ} where
  pub walked_least : (few field : ℕ) → Walked (number 4 field) s ix tour out after written → Walked (at_least few field) s ix tour out after written
  walked_least few field t = walked_ruled s (λ n. leb few n) Geography (walked_ruled s (λ n. ltb n (half 4)) Negative t)

module _ (s : List ℕ) (by : Bytes s) {ix : Index} {tour : Tour} {out : List ℕ} {after : Tour} {written : List ℕ} where
  pub walked_ring : Walked marked s ix tour out after written → Walked ring s ix tour out after written
  unfolding ring
  walked_ring w = walked_into s _ _ by (search laws depth 10) ring_back w

  pub walked_polygon : Walked led s ix tour out after written → Walked polygon s ix tour out after written
  unfolding polygon
  walked_polygon w = walked_into s _ _ by (search laws depth 12) polygon_back w

-- the third byte, the ring count n, and what stands behind
module _ (s : List ℕ) (by : Bytes s) {ix : Index} {tour : Tour} {out : List ℕ} {mid : Tour} {half : List ℕ} {n : ℕ}
    (t : Walked (number 1 62) s ix tour out mid half) (told : (m next : ℕ) → (number 4 0).read s mid.at ≡ ok (m, next) → n ≡ m) where
  ringed_told : (h : ℕ × ℕ) (next : ℕ) → ringed.read s tour.at ≡ ok (h, next) → n ≡ h.1
  unfolding both
  ringed_told h next e =
      let r = bound (holes_byte.read s tour.at) (ruled_read (λ p. eqb p.0 (holes_of p.1)) Geography _ s tour.at e) in
      let q = bound ((at_least 1 63).read s r.0.1) r.2 in
      let place : mid.at ≡ r.0.1 = (t.goes r.0.0 r.0.1 (ruled_read (λ b. leb b 1) Geography (number 1 62) s tour.at r.1)).0 in
      let last : q.0.0 ≡ h.1 = ap (λ (w : (ℕ × ℕ) × ℕ). w.0.1) (ok_same q.2) in
      told q.0.0 q.0.1 (rw place (least_read 1 63 s r.0.1 q.0.0 q.0.1 q.1)) ∙ last

  pub walked_holed : {far : Tour} {more : List ℕ} {after : Tour} {written : List ℕ} → Walked (number 4 63) s ix mid half far more → Walked (filled n) s ix far more after written
      → Walked holed s ix tour out after written
  walked_holed c u =
      let counted = walked_then s by lawful_holes_byte (walked_ruled s (λ b. leb b 1) Geography t) (walked_least s 1 63 c) in
      walked_both by {g = λ h. filled h.1} lawful_ringed (walked_ruled s (λ p. eqb p.0 (holes_of p.1)) Geography counted) (λ h next e.
      let same : n ≡ h.1 = ringed_told h next e in
      rw same at u)
