-- The parts of an accepted body stand where specs/Answers.antt says: each ring after those before it, each vertex after 24 bytes for each of those before it.
use Rattle.std.specs.Prelude.{Result, Ok}
use Rattle.std.proofs.Common.{◌≡◌, ℕ, zero, suc, ◌+◌, ◌*◌, ◌<◌, ◌≤◌, List, [], ◌∷◌, length, take, replicate, sym, refl, ap, ◌∙◌, ap₂, append-nil, arith, length-append}
use mathlib.Core.Option.{Option, some}
use lib.Seq.{take-length}
use Rattle.format.specs.declared.Fault.{Fault}
use Rattle.format.specs.declared.Fault.TheVariants.{Negative, Geography, PastEnd}
use Rattle.format.specs.declared.Refusal.{Refusal}
use Rattle.format.specs.Result.{Res, ok, no as refused, bind, told}
use Rattle.format.specs.Number.{num_at, Bytes}
use Rattle.format.specs.Format.{Format, number, block, ruled, into, both, nothing, each}
use Rattle.format.specs.Message.{first, second, third}
use Rattle.format.specs.Geography.{Vertex, Ring, Polygon, vertex, at_least, fewest_vertices, ring, ringed, polygon, ring_kept, body_kept, read_polygon}
use Rattle.format.proofs.Numbers.{length-num_bytes}
use Rattle.format.proofs.Results.{ok_same, no_ok, bound}
use Rattle.format.proofs.Laws.{lawful_number}
use Rattle.format.proofs.Lists.{All, each→all}
use Rattle.format.proofs.Geography.{body→encodes}
use Rattle.scan.proofs.Answers.{took}
use Rattle.places.specs.Stands.{Stands}
use Rattle.places.specs.Entries.{entry}
use Rattle.places.proofs.Stands.{stands_read, stands_fits, stands_at_lem, stands_ruled, stands_into, stands_first, stands_second, stands_head, stands_tail}
use Rattle.places.proofs.Lists.{total, length-total, stands_entry, entry_in, entry_past}
use Rattle.places.proofs.Layouts.{length-number}
use Rattle.areas.specs.declared.RingLayout.{RingLayout}
use Rattle.areas.specs.Answers.{ring_state, vertex_at, of_ring, layout_at, ask_ring, ask_vertex, ask_ring_kept, told_bits, ring_in, bits_in}
use Rattle.areas.proofs.Rounds.{after_count, after_mark}
use Rattle.areas.proofs.Surveys.{ring_place, after_head}

-- a number that stands is the number of the bytes there, and fits
pub number_is : (k field : ℕ) {s : List ℕ} {at n : ℕ} → Stands (number k field) s at n → num_at k s at ≡ n
number_is k field {s} {at} {n} d = sym (took k field s at n _ (stands_read (lawful_number k field) d)).value

-- a vertex has 24 bytes
pub vertex_size : (x : Vertex) → vertex.Good x → length (vertex.bytes x) ≡ 24
unfolding vertex each nothing number
vertex_size [] g = absurd g
vertex_size (a ∷ []) g = absurd g.1
vertex_size (a ∷ b ∷ []) g = absurd g.1.1
vertex_size (a ∷ b ∷ c ∷ []) g = simp (length-append, length-num_bytes)
vertex_size (a ∷ b ∷ c ∷ d ∷ l) g = absurd (let z : ◌≡◌ {A = ℕ} 0 1 = cc g.1.1.1 in omega arith)

pub vertices_size : (v : ℕ) (l : List Vertex) → All vertex.Good l → v ≤ length l → total vertex (take v l) ≡ 24 * v
unfolding total
vertices_size zero l g h = refl
vertices_size (suc v) [] g h = absurd (omega arith)
vertices_size (suc v) (x ∷ l) g h = rw (vertex_size x g.0, vertices_size v l g.1 (omega arith)) (omega arith)

module _ {s : List ℕ} {at : ℕ} {r : Ring} (d : Stands ring s at r) where
  marked : Stands (both (number 1 64) (λ m. after_mark)) s at (r.mark, (length r.vertices, (r.vertices, r.kept)))
  unfolding ring
  marked = stands_into _ _ d

  counted : Stands after_mark s (at + 1) (length r.vertices, (r.vertices, r.kept))
  counted = stands_at_lem (ap (λ (x : ℕ). at + x) (length-number 1 64 r.mark)) (stands_second (number 1 64) (λ m. after_mark) marked)

  pub mark_stands : Stands (number 1 64) s at r.mark
  mark_stands = stands_first (number 1 64) (λ m. after_mark) marked

  pub count_stands : Stands (number 4 65) s (at + 1) (length r.vertices)
  count_stands = stands_ruled _ Negative (stands_ruled _ Geography (stands_first (at_least fewest_vertices 65) after_count counted))

  after_count_lem : Stands (after_count (length r.vertices)) s (at + 1 + 4) (r.vertices, r.kept)
  unfolding ruled
  after_count_lem = stands_at_lem (ap (λ (x : ℕ). at + 1 + x) (length-number 4 65 (length r.vertices))) (stands_second (at_least fewest_vertices 65) after_count counted)

  pub vertices_stand : Stands (each second 0 (replicate (length r.vertices) vertex)) s (at + 5) r.vertices
  vertices_stand = stands_at_lem (omega arith) (stands_first (each second 0 (replicate (length r.vertices) vertex)) (λ vs. block ring_kept 67) after_count_lem)

  pub vertices_good : All vertex.Good r.vertices
  vertices_good = each→all second vertex 0 (length r.vertices) r.vertices vertices_stand.good

  pub vertex_stands : (v : ℕ) {x : Vertex} → v ≤ length r.vertices → entry r.vertices v ≡ ok x → Stands vertex s (at + 5 + 24 * v) x
  vertex_stands v h e =
      stands_at_lem (ap (λ (n : ℕ). at + 5 + n) (vertices_size v r.vertices vertices_good h)) (stands_entry second 0 (length r.vertices) vertex r.vertices v vertices_stand e)

  pub vertex_place : (v : ℕ) → v ≤ length r.vertices → vertex_at at r v ≡ at + 5 + 24 * v
  unfolding vertex_at ring into both ruled number block
  vertex_place v h =
      let l = take v r.vertices in
      let size : length ((each second 0 (replicate (length l) vertex)).bytes l) ≡ 24 * v = length-total second 0 (length l) vertex l (omega arith) ∙ vertices_size v r.vertices vertices_good h in
      simp (length-append, length-num_bytes, size) (omega arith)

  pub ring_kept_stands : Stands (block ring_kept 67) s (at + 5 + 24 * length r.vertices) r.kept
  ring_kept_stands =
      let n = length r.vertices in
      let size : length ((each second 0 (replicate n vertex)).bytes r.vertices) ≡ 24 * n =
      length-total second 0 n vertex r.vertices (omega arith) ∙ sym (ap (total vertex) (take-length r.vertices)) ∙ vertices_size n r.vertices vertices_good (omega arith) in
      stands_at_lem (rw size (omega arith)) (stands_second (each second 0 (replicate n vertex)) (λ vs. block ring_kept 67) after_count_lem)

-- a vertex is three floats
pub record Axes (s : List ℕ) (at : ℕ) (v : Vertex) : Type 0 where
  pub are : v ≡ num_at 8 s at ∷ num_at 8 s (at + 8) ∷ num_at 8 s (at + 16) ∷ []
  pub fits : at + 24 ≤ length s

pub axes : {s : List ℕ} {at : ℕ} (v : Vertex) → Stands vertex s at v → Axes s at v
unfolding vertex each nothing
axes [] d = absurd d.good
axes (a ∷ []) d = absurd d.good.1
axes (a ∷ b ∷ []) d = absurd d.good.1.1
axes {s} {at} (a ∷ b ∷ c ∷ []) d =
    let x = stands_head third 0 (number 8 66) (replicate 2 (number 8 66)) d in
    let d₁ = stands_at_lem (ap (λ (n : ℕ). at + n) (length-number 8 66 a)) (stands_tail third 0 (number 8 66) (replicate 2 (number 8 66)) d) in
    let y = stands_head third 1 (number 8 66) (replicate 1 (number 8 66)) d₁ in
    let d₂ = stands_at_lem (ap (λ (n : ℕ). at + 8 + n) (length-number 8 66 b)) (stands_tail third 1 (number 8 66) (replicate 1 (number 8 66)) d₁) in
    let z = stands_head third 2 (number 8 66) [] d₂ in
    let sixteen : at + 8 + 8 ≡ at + 16 = omega arith in
    record {
      are = rw (number_is 8 66 x, number_is 8 66 y, number_is 8 66 (stands_at_lem sixteen z));
      fits = omega (arith, rw (vertex_size (a ∷ b ∷ c ∷ []) d.good) at (stands_fits d));
    }
axes (a ∷ b ∷ c ∷ e ∷ l) d = absurd (let z : ◌≡◌ {A = ℕ} 0 1 = cc d.good.1.1.1 in omega arith)

-- what stands behind a body's first byte, and behind its second
abbrev pub after_internal : Format ((ℕ × ℕ) × (List Ring × List ℕ))
after_internal = both ringed (λ h. after_head h.1)

abbrev pub after_edition : Format (ℕ × ((ℕ × ℕ) × (List Ring × List ℕ)))
after_edition = both (number 1 61) (λ i. after_internal)

module _ (b : List ℕ) (by : Bytes b) (p : Polygon) (accepted : read_polygon b ≡ ok p) where
  body_stands : Stands polygon b 0 p
  body_stands =
      let w = body→encodes b by p accepted in
      record { good = w.0; before = []; after = []; whole = rw append-nil w.1; start = refl }

  rings_follow : Stands (after_head (length p.rings)) b 7 (p.rings, p.kept)
  unfolding polygon ruled both
  rings_follow =
      let whole : Stands (both (number 1 60) (λ e. after_edition)) b 0 (p.edition, (p.internal, ((p.holes, length p.rings), (p.rings, p.kept)))) = stands_into _ _ body_stands in
      let one : Stands after_edition b 1 (p.internal, ((p.holes, length p.rings), (p.rings, p.kept))) = stands_at_lem (ap (λ (x : ℕ). 0 + x) (length-number 1 60 p.edition)) (stands_second (number 1 60) (λ e. after_edition) whole) in
      let two : Stands after_internal b 2 ((p.holes, length p.rings), (p.rings, p.kept)) = stands_at_lem (ap (λ (x : ℕ). 1 + x) (length-number 1 61 p.internal)) (stands_second (number 1 61) (λ i. after_internal) one) in
      stands_at_lem (rw (length-append, length-number, length-number)) (stands_second ringed (λ h. after_head h.1) two)

  pub rings_stand : Stands (each first 0 (replicate (length p.rings) ring)) b 7 p.rings
  rings_stand = stands_first (each first 0 (replicate (length p.rings) ring)) (λ rs. block body_kept 68) rings_follow

  pub ring_stands : (n : ℕ) {r : Ring} → entry p.rings n ≡ ok r → Stands ring b (ring_state p n) r
  ring_stands n e = stands_at_lem (sym (ring_place p n)) (stands_entry first 0 (length p.rings) ring p.rings n rings_stand e)

  pub kept_stands : Stands (block body_kept 68) b (ring_state p (length p.rings)) p.kept
  kept_stands =
      let n = length p.rings in
      let size : length ((each first 0 (replicate n ring)).bytes p.rings) ≡ total ring (take n p.rings) =
      length-total first 0 n ring p.rings (omega arith) ∙ sym (ap (total ring) (take-length p.rings)) in
      stands_at_lem (rw size (sym (ring_place p n))) (stands_second (each first 0 (replicate n ring)) (λ rs. block body_kept 68) rings_follow)

-- what the bytes of a ring that stands say of it
pub ring_read : {s : List ℕ} {at : ℕ} {r : Ring} → Stands ring s at r → ring_in s at ≡ layout_at at r
ring_read d = rw (number_is 1 64 (mark_stands d), number_is 4 65 (count_stands d))

-- a ring that was found
pub record Found (b : List ℕ) (n : ℕ) (l : RingLayout) : Type 0 where
  pub body : Polygon
  pub accepted : read_polygon b ≡ ok body
  pub ring_of : Ring
  pub is : entry body.rings n ≡ ok ring_of
  pub stands : Stands ring b (ring_state body n) ring_of
  pub layout : l ≡ layout_at (ring_state body n) ring_of

pub ring_found : (b : List ℕ) → Bytes b → (n : ℕ) {a : Result RingLayout Refusal} {l : RingLayout} → told a ≡ ask_ring b n → a ≡ Ok l → Found b n l
ring_found b by n e is =
    let q = bound (read_polygon b) (sym e ∙ ap told is) in
    let w = bound (entry q.0.rings n) q.2 in
    record { body = q.0; accepted = q.1; ring_of = w.0; is = w.1; stands = ring_stands b by q.0 q.1 n w.1; layout = sym (ok_same w.2) }

module _ {b : List ℕ} {n : ℕ} {l : RingLayout} (f : Found b n l) where
  found_at : l.at ≡ ring_state f.body n
  found_at = ap (λ (x : RingLayout). x.at) f.layout

  found_count : l.vertices ≡ length f.ring_of.vertices
  found_count = ap (λ (x : RingLayout). x.vertices) f.layout

  -- what it keeps stands after its last vertex
  pub kept_within : l.at + 5 + 24 * l.vertices ≤ length b
  kept_within = rw (found_at, found_count) (omega (arith, stands_fits (ring_kept_stands f.stands)))

  pub kept_told : ◌≡◌ {A = Res (Option (ℕ × ℕ))} (ok (some (l.at + 5 + 24 * l.vertices, ring_kept))) (ask_ring_kept b n)
  kept_told = rw (found_at, found_count, f.accepted, f.is, vertex_place f.stands (length f.ring_of.vertices) (omega arith))

  -- a vertex of it, and one past the last
  module _ (v : ℕ) (low : v < l.vertices) where
    there : (x : Vertex) × (entry f.ring_of.vertices v ≡ ok x)
    there = entry_in f.ring_of.vertices v (rw (← found_count) low)

    its_axes : Axes b (ring_state f.body n + 5 + 24 * v) there.0
    its_axes = let h : v ≤ length f.ring_of.vertices = rw (← found_count) (omega arith) in axes there.0 (vertex_stands f.stands v h there.1)

    pub vertex_within : l.at + 5 + 24 * v + 24 ≤ length b
    vertex_within = rw found_at its_axes.fits

    pub vertex_told : told_bits (Ok (bits_in b (l.at + 5 + 24 * v))) ≡ ask_vertex b n v
    vertex_told = rw (found_at, f.accepted, f.is, there.1) (ap ok (sym its_axes.are))

  pub vertex_past : (v : ℕ) → l.vertices ≤ v → ask_vertex b n v ≡ refused PastEnd 0
  vertex_past v h = rw (f.accepted, f.is) (entry_past f.ring_of.vertices v (rw (← found_count) h))

-- one that isn't there is refused to whoever asks for it
module _ {A : Type 0} (ask : ℕ → Ring → Res A) (b : List ℕ) (n : ℕ) {f : Fault} {k : ℕ} where
  none_in : (p : Polygon) (r : Res Ring) → bind r (λ x. ok (layout_at (ring_state p n) x)) ≡ refused f k → bind r (ask (ring_state p n)) ≡ refused f k
  none_in p (ok x) e = absurd (no_ok (sym e))
  none_in p (refused g q) e = ap₂ (λ (h : Fault) (i : ℕ). refused h i) (cc) (cc)

  none_of : (r : Res Polygon) → bind r (λ p. bind (entry p.rings n) (λ x. ok (layout_at (ring_state p n) x))) ≡ refused f k → bind r (λ p. bind (entry p.rings n) (ask (ring_state p n))) ≡ refused f k
  none_of (ok p) e = none_in p (entry p.rings n) e
  none_of (refused g q) e = ap₂ (λ (h : Fault) (i : ℕ). refused h i) (cc) (cc)

  ring_none : ask_ring b n ≡ refused f k → of_ring b n ask ≡ refused f k
  ring_none e = none_of (read_polygon b) e

pub kept_none : (b : List ℕ) (n : ℕ) {f : Fault} {k : ℕ} → ask_ring b n ≡ refused f k → ask_ring_kept b n ≡ refused f k
kept_none b n = ring_none (λ at r. ok (some (vertex_at at r (length r.vertices), ring_kept))) b n

pub vertex_none : (b : List ℕ) (n v : ℕ) {f : Fault} {k : ℕ} → ask_ring b n ≡ refused f k → ask_vertex b n v ≡ refused f k
vertex_none b n v = ring_none (λ at r. entry r.vertices v) b n

-- the refusal past the end
pub past_told : {A : Type 0} {r : Refusal} → (r.fault ≡ PastEnd) × (r.place ≡ 0) → ◌≡◌ {A = Res A} (refused r.fault r.place) (refused PastEnd 0)
past_told e = ap₂ (λ (f : Fault) (p : ℕ). refused f p) e.0 e.1
