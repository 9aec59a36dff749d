-- The bytes of areas, rings and vertices, field by field: the formats, unfolded once.
use Prim.Native.Nat.{ℕ}
use mathlib.Core.Path.{◌≡◌, refl, ◌∙◌, ap}
use mathlib.Core.List.{[], ◌∷◌, ◌++◌, append-nil}
use lib.ListN.{length, replicate, length-append}
use Rattle.format.specs.Number.{num_bytes}
use Rattle.format.specs.Format.{number, block, ruled, into, both, each, nothing}
use Rattle.format.specs.Message.{first, second}
use Rattle.format.specs.Geography.{vertex, Ring, ring, Polygon, polygon}
use Rattle.format.proofs.Numbers.{length-num_bytes}
use Rattle.outline.specs.State.{area_head, ring_head}

pub vertex_bytes : (x y z : ℕ) → vertex.bytes (x ∷ y ∷ z ∷ []) ≡ num_bytes 8 x ++ (num_bytes 8 y ++ num_bytes 8 z)
unfolding vertex number each nothing
vertex_bytes x y z = simp append-nil

pub ring_bytes_lem : (r : Ring) → let n = length r.vertices in
    ring.bytes r ≡ num_bytes 1 r.mark ++ (num_bytes 4 n ++ ((each second 0 (replicate n vertex)).bytes r.vertices ++ r.kept))
unfolding ring into both ruled number block
ring_bytes_lem r = refl

pub polygon_bytes : (p : Polygon) → let n = length p.rings in
    polygon.bytes p ≡ num_bytes 1 p.edition ++ (num_bytes 1 p.internal ++ ((num_bytes 1 p.holes ++ num_bytes 4 n) ++ ((each first 0 (replicate n ring)).bytes p.rings ++ p.kept)))
unfolding polygon into both ruled number block
polygon_bytes p = refl

-- those that have nothing yet
pub begun_bytes : (edition internal : ℕ) → polygon.bytes (record { edition = edition; internal = internal; holes = 0; rings = []; kept = [] })
    ≡ num_bytes 1 edition ++ (num_bytes 1 internal ++ (num_bytes 1 0 ++ num_bytes 4 0))
unfolding each nothing
begun_bytes edition internal = simp append-nil at (polygon_bytes (record { edition = edition; internal = internal; holes = 0; rings = []; kept = [] }))

pub opened_bytes : (mark : ℕ) → ring.bytes (record { mark = mark; vertices = []; kept = [] }) ≡ num_bytes 1 mark ++ num_bytes 4 0
unfolding each nothing
opened_bytes mark = simp append-nil at (ring_bytes_lem (record { mark = mark; vertices = []; kept = [] }))

-- and how many they are
pub vertex_size : (x y z : ℕ) → length (vertex.bytes (x ∷ y ∷ z ∷ [])) ≡ 24
vertex_size x y z = ap length (vertex_bytes x y z) ∙ simp (length-append, length-num_bytes)

pub begun_size : (edition internal : ℕ) → length (polygon.bytes (record { edition = edition; internal = internal; holes = 0; rings = []; kept = [] })) ≡ area_head
begun_size edition internal = ap length (begun_bytes edition internal) ∙ simp (length-append, length-num_bytes)

pub opened_size : (mark : ℕ) → length (ring.bytes (record { mark = mark; vertices = []; kept = [] })) ≡ ring_head
opened_size mark = ap length (opened_bytes mark) ∙ simp (length-append, length-num_bytes)
