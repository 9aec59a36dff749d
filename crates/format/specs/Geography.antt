-- The body of a geography: a polygon, by the 2016 document's "Geography Value Wire Representation". A message keeps the body as it is; what stands here is for
-- the calls on a body. Its fields: 60, 61, 62 the three leading bytes (encoding version, internal, whether there are holes), 63 ring count; of each ring 64 its
-- byte, 65 vertex count, 66 a float, 67 its kept bytes; 68 the body's kept bytes. The indices are ring, vertex and axis.
use Rattle.std.specs.Prelude.{ℕ, List, [], ◌∷◌, map, reverse, length, replicate, leb, ltb, eqb}
use Rattle.format.specs.declared.Fault.TheVariants.{Negative, Extra, Geography}
use Rattle.format.specs.Result.{Res, ok, no, bind, pick}
use Rattle.format.specs.Number.{half}
use Rattle.format.specs.Format.{Format, Entry, number, block, ruled, into, both, each}
use Rattle.format.specs.Message.{first, second, third, no_index}

-- the bytes that are kept as they came, after a ring's vertices and after the last ring; and the fewest vertices of a ring
abbrev pub ring_kept : ℕ
ring_kept = 38

abbrev pub body_kept : ℕ
body_kept = 33

abbrev pub fewest_vertices : ℕ
fewest_vertices = 3

-- a vertex: its x, y and z, any floats
abbrev pub Vertex : Type 0
Vertex = List ℕ

pub record Ring : Type 0 where
  pub mark : ℕ
  pub vertices : List Vertex
  pub kept : List ℕ

pub record Polygon : Type 0 where
  pub edition : ℕ
  pub internal : ℕ
  pub holes : ℕ
  pub rings : List Ring
  pub kept : List ℕ

unfoldable pub vertex : Format Vertex
vertex = each third 0 (replicate 3 (number 8 66))

-- a count of at least so many; a negative one is refused before that
abbrev pub at_least : ℕ → ℕ → Format ℕ
at_least few field = ruled (λ n. leb few n) Geography (ruled (λ n. ltb n (half 4)) Negative (number 4 field))

unfoldable pub ring : Format Ring
ring =
    into (λ v. record { mark = v.0; vertices = v.1.1.0; kept = v.1.1.1 }) (λ r. (r.mark, (length r.vertices, (r.vertices, r.kept))))
    (both (number 1 64) (λ m. both (at_least fewest_vertices 65) (λ n. both (each second 0 (replicate n vertex)) (λ vs. block ring_kept 67))))

-- what the third byte says of so many rings: 1 exactly if there is more than one
abbrev pub holes_of : ℕ → ℕ
holes_of rings = pick (leb 2 rings) 1 0

-- the third byte and the ring count. The byte is held against the count once that has passed its own tests, and refused at its own place, where this begins
abbrev pub ringed : Format (ℕ × ℕ)
ringed = ruled (λ p. eqb p.0 (holes_of p.1)) Geography (both (ruled (λ h. leb h 1) Geography (number 1 62)) (λ h. at_least 1 63))

unfoldable pub polygon : Format Polygon
polygon =
    into (λ v. record { edition = v.0; internal = v.1.0; holes = v.1.1.0.0; rings = v.1.1.1.0; kept = v.1.1.1.1 })
    (λ p. (p.edition, (p.internal, ((p.holes, length p.rings), (p.rings, p.kept)))))
    (both (number 1 60) (λ e. both (number 1 61) (λ i. both ringed (λ h. both (each first 0 (replicate h.1 ring)) (λ rs. block body_kept 68)))))

module _ {A : Type 0} where
  -- a whole list, read by a format: what is left over is refused at its first byte
  abbrev pub to_end : List ℕ → A × ℕ → Res A
  to_end s q = pick (eqb q.1 (length s)) (ok q.0) (no Extra q.1)

  abbrev pub read_whole : Format A → List ℕ → Res A
  read_whole f s = bind (f.read s 0) (to_end s)

abbrev pub read_polygon : List ℕ → Res Polygon
read_polygon = read_whole polygon

abbrev pub polygon_fields : Polygon → List Entry
polygon_fields p = polygon.fields no_index 0 p

-- the fields inside a body, at their places in it
abbrev pub fields_inside : List ℕ → Res (List Entry)
fields_inside b = bind (read_polygon b) (λ p. ok (polygon_fields p))

-- the other sense: each ring after the first goes round the other way, from the same first vertex
abbrev pub after_first : {A : Type 0} → (List A → List A) → List A → List A
after_first f [] = []
after_first f (a ∷ l) = a ∷ f l

abbrev pub turned_ring : Ring → Ring
turned_ring r = record { mark = r.mark; vertices = after_first reverse r.vertices; kept = r.kept }

abbrev pub turned : Polygon → Polygon
turned p = record { edition = p.edition; internal = p.internal; holes = p.holes; rings = after_first (map turned_ring) p.rings; kept = p.kept }

-- what is made of a body; one that isn't accepted stays as it is
abbrev pub turned_or : List ℕ → Res Polygon → List ℕ
turned_or b (ok p) = polygon.bytes (turned p)
turned_or b (no f k) = b

abbrev pub turned_body : List ℕ → List ℕ
turned_body b = turned_or b (read_polygon b)
