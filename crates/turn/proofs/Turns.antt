-- A ring has its byte, its count and its first vertex in front, then the others, then what it keeps: with the others in reverse order it is the turned one. A body
-- has its head and its first ring in front, then the others, then what it keeps: with the others turned it is the turned one.
use Prim.Native.Nat.{ℕ, suc, ◌+◌, ◌*◌, ◌-◌, ◌≤◌}
use mathlib.Core.Path.{◌≡◌, refl, sym, ◌∙◌, ap}
use mathlib.Core.List.{List, [], ◌∷◌, ◌++◌, map, flat_map, reverse, reverse_aux, append_assoc}
use lib.ListN.{length, replicate, length-append, length-reverse, length-map}
use native.Mathlib.Omega.{arith}
use borrow.Author.Tests.{leb-true}
use Rattle.format.specs.Result.{ok}
use Rattle.format.specs.Number.{num_at, num_bytes, Bytes}
use Rattle.format.specs.Format.{number, block, ruled, into, both, each}
use Rattle.format.specs.Message.{first, second}
use Rattle.format.specs.Geography.{Vertex, Ring, Polygon, vertex, ring, polygon, turned_ring, turned, after_first, read_polygon}
use Rattle.format.proofs.Numbers.{length-num_bytes}
use Rattle.format.proofs.Lists.{All, all_reverse, each→all}
use Rattle.format.proofs.Geography.{first_length, first_all, body→encodes}
use Rattle.steps.proofs.Back.{all_bytes}
use Rattle.places.specs.Stands.{Stands}
use Rattle.places.proofs.Stands.{stands_fits}
use Rattle.places.proofs.Lists.{total}
use Rattle.areas.specs.Answers.{ring_state}
use Rattle.areas.specs.declared.Seen.{Seen}
use Rattle.areas.specs.Passes.{survey_of}
use Rattle.areas.proofs.Surveys.{ring_place}
use Rattle.areas.proofs.Stands.{number_is, count_stands, vertices_good, vertex_size, ring_kept_stands}
use Rattle.turn.specs.Turning.{Each, Block, itself, SomeRing, TurnedRing, Rings, Reversed}
use Rattle.turn.proofs.Changes.{first_left}
use Rattle.turn.proofs.Reversals.{flat_size}

-- where a ring's parts are, and that there is room for them
pub record Room (s : List ℕ) (at : ℕ) (r : Ring) : Type 0 where
  pub count : num_at 4 s (at + 1) ≡ length r.vertices
  pub few : 3 ≤ length r.vertices
  pub fits : at + 5 + 24 * length r.vertices + 38 ≤ length s

pub roomy : {s : List ℕ} {at : ℕ} {r : Ring} → Stands ring s at r → Room s at r
unfolding ring into both ruled block
roomy {s} {at} {r} d = record {
  count = number_is 4 65 (count_stands d);
  few = leb-true 3 (length r.vertices) d.good.0.1.0.1;
  fits = rw (ring_kept_stands d).good.0 at (stands_fits (ring_kept_stands d));
}

-- the bytes of some vertices
abbrev flat : List Vertex → List ℕ
flat vs = flat_map vertex.bytes vs

flat_blocks : (vs : List Vertex) → flat_map itself (map vertex.bytes vs) ≡ flat vs
unfolding flat_map
flat_blocks [] = refl
flat_blocks (v ∷ vs) = ap (λ (z : List ℕ). vertex.bytes v ++ z) (flat_blocks vs)

map-aux : (vs ws : List Vertex) → map vertex.bytes (reverse_aux vs ws) ≡ reverse_aux (map vertex.bytes vs) (map vertex.bytes ws)
map-aux [] ws = refl
map-aux (v ∷ vs) ws = map-aux vs (v ∷ ws)

map-reversed : (vs : List Vertex) → reverse (map vertex.bytes vs) ≡ map vertex.bytes (reverse vs)
map-reversed vs = sym (map-aux vs [])

each_block : (vs : List Vertex) → All vertex.Good vs → Each Block (map vertex.bytes vs)
each_block [] g = tt
each_block (v ∷ vs) g = (vertex_size v g.0, each_block vs g.1)

-- a ring by its first vertex and the others
abbrev ring_of : ℕ → Vertex → List Vertex → List ℕ → Ring
ring_of m v vs kept = record { mark = m; vertices = v ∷ vs; kept = kept }

abbrev lead : ℕ → ℕ → Vertex → List ℕ
lead m n v = num_bytes 1 m ++ (num_bytes 4 n ++ vertex.bytes v)

ring_parts : (m : ℕ) (v : Vertex) (vs : List Vertex) (kept : List ℕ) → ring.bytes (ring_of m v vs kept) ≡ lead m (suc (length vs)) v ++ (flat vs ++ kept)
unfolding ring into both ruled number block flat_map
ring_parts m v vs kept =
    let all : (each second 0 (replicate (suc (length vs)) vertex)).bytes (v ∷ vs) ≡ vertex.bytes v ++ flat_map vertex.bytes vs = all_bytes vertex second 0 (v ∷ vs) in
    simp (all, append_assoc)

-- in a list where it stands
placed : (before after : List ℕ) (m : ℕ) (v : Vertex) (vs : List Vertex) (kept : List ℕ)
    → before ++ lead m (suc (length vs)) v ++ (flat vs ++ (kept ++ after)) ≡ before ++ (ring.bytes (ring_of m v vs kept) ++ after)
placed before after m v vs kept = rw (ring_parts m v vs kept) (simp append_assoc)

module _ {s : List ℕ} {at : ℕ} where
  turned_of : (n : ℕ) (m : ℕ) (vs : List Vertex) (kept : List ℕ) (d : Stands ring s at (record { mark = m; vertices = vs; kept = kept })) → All vertex.Good vs → length vs ≡ suc n → (s' : List ℕ)
      → Reversed s (at + 29) n s' → s' ≡ d.before ++ (ring.bytes (turned_ring (record { mark = m; vertices = vs; kept = kept })) ++ d.after)
  turned_of n m [] kept d g e s' h = absurd (omega arith)
  turned_of n m (v ∷ vs) kept d g e s' h =
      let front = d.before ++ lead m (suc (length vs)) v in
      let long : length front ≡ at + 29 = rw (length-append, length-append, length-append, length-num_bytes, length-num_bytes, vertex_size v g.0, d.start) (omega arith) in
      let stands : front ++ (flat_map itself (map vertex.bytes vs) ++ (kept ++ d.after)) ≡ s = rw (flat_blocks vs) (placed d.before d.after m v vs kept ∙ d.whole) in
      let many : length (map vertex.bytes vs) ≡ n = length-map vs vertex.bytes ∙ omega arith in
      let now-is = h front (map vertex.bytes vs) (kept ++ d.after) stands long many (each_block vs g.1) in
      let same : length (reverse vs) ≡ length vs = length-reverse vs in
      let turned-now : d.before ++ lead m (suc (length vs)) v ++ (flat (reverse vs) ++ (kept ++ d.after)) ≡ d.before ++ (ring.bytes (ring_of m v (reverse vs) kept) ++ d.after) =
      rw same at (placed d.before d.after m v (reverse vs) kept) in
      now-is ∙ rw (map-reversed vs, flat_blocks (reverse vs)) turned-now

  pub ring_turned : {r : Ring} (d : Stands ring s at r) (n : ℕ) → length r.vertices ≡ suc n → {s' : List ℕ} → Reversed s (at + 29) n s' → s' ≡ d.before ++ (ring.bytes (turned_ring r) ++ d.after)
  ring_turned {r} d n e {s'} h = turned_of n r.mark r.vertices r.kept d (vertices_good d) e s' h

-- how many bytes a ring has
size_is : (m : ℕ) (vs : List Vertex) (kept : List ℕ) → All vertex.Good vs → length kept ≡ 38 → length (ring.bytes (record { mark = m; vertices = vs; kept = kept })) ≡ 5 + 24 * length vs + 38
unfolding ring into both ruled number block
size_is m vs kept g k =
    let all : length ((each second 0 (replicate (length vs) vertex)).bytes vs) ≡ 24 * length vs =
    ap length (all_bytes vertex second 0 vs ∙ sym (flat_blocks vs)) ∙ flat_size (map vertex.bytes vs) (each_block vs g) ∙ ap (λ (n : ℕ). 24 * n) (length-map vs vertex.bytes) in
    rw (length-append, length-append, length-append, length-num_bytes, length-num_bytes, all, k) (omega arith)

-- a turned ring has as many
pub turned_size : (r : Ring) → ring.Good r → length (ring.bytes (turned_ring r)) ≡ length (ring.bytes r)
unfolding ring into both block
turned_size r g =
    let vs = each→all second vertex 0 (length r.vertices) r.vertices g.0.1.1.0 in
    let turned-vs = first_all vertex.Good reverse (all_reverse vertex.Good) r.vertices vs in
    let same : length (after_first reverse r.vertices) ≡ length r.vertices = first_length reverse length-reverse r.vertices in
    size_is r.mark (after_first reverse r.vertices) r.kept turned-vs g.0.1.1.1.0 ∙ rw same (sym (size_is r.mark r.vertices r.kept vs g.0.1.1.1.0))

pub ring_size : {s : List ℕ} {at : ℕ} {r : Ring} → Stands ring s at r → length (ring.bytes r) ≡ 5 + 24 * length r.vertices + 38
unfolding block
ring_size {s} {at} {r} d = size_is r.mark r.vertices r.kept (vertices_good d) (ring_kept_stands d).good.0

-- the first of some rings that are left stands, and when it is turned the others are left
pub ring_left : {s target : List ℕ} {at left : ℕ} → Rings s target at (suc left) → SomeRing s at
ring_left h = let f = first_left ring.bytes (λ r. ring.bytes (turned_ring r)) ring.Good h in (f.one, record { good = f.fine; before = f.front; after = f.rest; whole = f.stands; start = f.place })

pub ring_done : {s target : List ℕ} {at left next : ℕ} {s' : List ℕ} → Rings s target at (suc left) → TurnedRing s at next s' → Rings s' target next left
ring_done {s} {target} {at} {left} {next} {s'} h turn =
    let f = first_left ring.bytes (λ r. ring.bytes (turned_ring r)) ring.Good h in
    let w = turn f.one (record { good = f.fine; before = f.front; after = f.rest; whole = f.stands; start = f.place }) in
    let more = f.then s' w.1 in
    let place : at + length (ring.bytes (turned_ring f.one)) ≡ next = ap (λ (n : ℕ). at + n) (turned_size f.one f.fine) ∙ sym w.0 in
    rw place at more

-- a body by its first ring and the others
abbrev head : ℕ → ℕ → ℕ → ℕ → List ℕ
head e i h n = num_bytes 1 e ++ (num_bytes 1 i ++ (num_bytes 1 h ++ num_bytes 4 n))

body_parts : (e i h : ℕ) (r : Ring) (rs : List Ring) (kept : List ℕ)
    → polygon.bytes (record { edition = e; internal = i; holes = h; rings = r ∷ rs; kept = kept }) ≡ head e i h (suc (length rs)) ++ ring.bytes r ++ (flat_map ring.bytes rs ++ kept)
unfolding polygon into both ruled number block flat_map
body_parts e i h r rs kept =
    let all : (each first 0 (replicate (suc (length rs)) ring)).bytes (r ∷ rs) ≡ ring.bytes r ++ flat_map ring.bytes rs = all_bytes ring first 0 (r ∷ rs) in
    simp (all, append_assoc)

flat_turned : (rs : List Ring) → flat_map ring.bytes (map turned_ring rs) ≡ flat_map (λ r. ring.bytes (turned_ring r)) rs
unfolding flat_map
flat_turned [] = refl
flat_turned (r ∷ rs) = ap (λ (z : List ℕ). ring.bytes (turned_ring r) ++ z) (flat_turned rs)

each_good : (rs : List Ring) → All ring.Good rs → Each ring.Good rs
each_good [] g = tt
each_good (r ∷ rs) g = (g.0, each_good rs g.1)

-- the rings behind the first are left, and with them turned the body is
holes_of_lem : (s : List ℕ) (e i h : ℕ) (rings : List Ring) (kept : List ℕ) → All ring.Good rings → 1 ≤ length rings
    → polygon.bytes (record { edition = e; internal = i; holes = h; rings = rings; kept = kept }) ≡ s
    → Rings s (polygon.bytes (turned (record { edition = e; internal = i; holes = h; rings = rings; kept = kept }))) (ring_state (record { edition = e; internal = i; holes = h; rings = rings; kept = kept }) 1) (length rings - 1)
unfolding total
holes_of_lem s e i h [] kept g low is = absurd (omega arith)
holes_of_lem s e i h (r ∷ rs) kept g low is =
    let p : Polygon = record { edition = e; internal = i; holes = h; rings = r ∷ rs; kept = kept } in
    let same : length (map turned_ring rs) ≡ length rs = length-map rs turned_ring in
    record {
      front = head e i h (suc (length rs)) ++ ring.bytes r;
      todo = rs;
      back = kept;
      stands = sym (body_parts e i h r rs kept) ∙ is;
      becomes = sym (rw (same, flat_turned rs) at (body_parts e i h r (map turned_ring rs) kept));
      place = rw (length-append, length-append, length-append, length-append, length-num_bytes, length-num_bytes, length-num_bytes, length-num_bytes) (omega (arith, ring_place p 1));
      many = omega arith;
      fine = each_good rs g.1;
    }

holes_left : (s : List ℕ) → Bytes s → (p : Polygon) → read_polygon s ≡ ok p → Rings s (polygon.bytes (turned p)) (ring_state p 1) (length p.rings - 1)
unfolding polygon into both ruled
holes_left s by p accepted =
    let w = body→encodes s by p accepted in
    let good = each→all first ring 0 (length p.rings) p.rings w.0.0.1.1.1.0 in
    let some = leb-true 1 (length p.rings) w.0.0.1.1.0.0.1.1 in
    holes_of_lem s p.edition p.internal p.holes p.rings p.kept good some w.1

-- by what one pass over the body has found
pub holes_seen : (s : List ℕ) → Bytes s → (p : Polygon) → read_polygon s ≡ ok p → {seen : Seen} → seen ≡ survey_of 1 p → Rings s (polygon.bytes (turned p)) seen.found (seen.rings - 1)
holes_seen s by p accepted e = rw e (holes_left s by p accepted)

pub some_rings : (s : List ℕ) → Bytes s → (p : Polygon) → read_polygon s ≡ ok p → 1 ≤ length p.rings
unfolding polygon into both ruled
some_rings s by p accepted = leb-true 1 (length p.rings) (body→encodes s by p accepted).0.0.1.1.0.0.1.1
