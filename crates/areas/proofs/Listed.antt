-- The field list inside a body beside the places of specs/Answers.antt: each ring, each float and the kept bytes are listed where they stand, with their indices; and what is
-- answered of a vertex is what the bytes listed for it say.
use Rattle.std.proofs.Common.{◌≡◌, ℕ, zero, suc, ◌+◌, ◌*◌, ◌≤◌, List, [], ◌∷◌, length, take, drop, replicate, sym, refl, ap, ◌∙◌, zero-add, arith, length-append}
use lib.Seq.{take-length}
use Rattle.format.specs.Result.{ok}
use Rattle.format.specs.Number.{num_at, Bytes}
use Rattle.format.specs.Format.{Index, number, block, ruled, into, both, each, piece}
use Rattle.format.specs.Message.{first, second, third, no_index}
use Rattle.format.specs.Geography.{Vertex, Ring, Polygon, vertex, at_least, fewest_vertices, ring, ringed, polygon, polygon_fields, ring_kept, body_kept, read_polygon}
use Rattle.format.proofs.Results.{bound}
use Rattle.format.proofs.Laws.{lawful_block, length-each}
use Rattle.places.specs.Entries.{entry}
use Rattle.places.specs.Stands.{Stands}
use Rattle.places.proofs.Stands.{stands_at_lem, stands_read}
use Rattle.places.proofs.Lists.{total, length-total, entry_below, stands_entry}
use Rattle.places.proofs.Layouts.{length-number}
use Rattle.places.proofs.Listed.{Within, within_in, within_at, in_first, in_second, in_entry}
use Rattle.places.proofs.Readings.{block_held}
use Rattle.areas.specs.Answers.{ring_state, vertex_at, ask_vertex}
use Rattle.areas.proofs.Rounds.{after_count, after_mark}
use Rattle.areas.proofs.Surveys.{ring_place, after_head}
use Rattle.areas.proofs.Stands.{number_is, vertices_size, vertices_good, vertex_stands, vertex_place, ring_kept_stands, after_internal, after_edition, ring_stands, kept_stands}

-- a body lists its rings, and after them what it keeps
module _ (p : Polygon) where
  after_head_in : Within ((after_head (length p.rings)).fields no_index 7 (p.rings, p.kept)) (polygon_fields p)
  unfolding polygon into ruled both
  after_head_in =
      let h : (ℕ × ℕ) × (List Ring × List ℕ) = ((p.holes, length p.rings), (p.rings, p.kept)) in
      let one = in_second (number 1 60) (λ e. after_edition) no_index 0 (p.edition, (p.internal, h)) in
      let two = within_in (in_second (number 1 61) (λ i. after_internal) no_index _ (p.internal, h)) one in
      let three = within_in (in_second ringed (λ q. after_head q.1) no_index _ h) two in
      within_at (after_head (length p.rings)) (rw (length-append, length-number, length-number, length-number, length-number)) three

  pub ring_listed : (n : ℕ) {r : Ring} → entry p.rings n ≡ ok r → Within (ring.fields (first n no_index) (ring_state p n) r) (polygon_fields p)
  ring_listed n e =
      let here = in_entry first no_index 0 (length p.rings) ring p.rings n 7 (omega arith) e in
      let all = within_in (in_first (each first 0 (replicate (length p.rings) ring)) (λ rs. block body_kept 68) no_index 7 (p.rings, p.kept)) after_head_in in
      within_at ring (sym (ring_place p n)) (rw (zero-add n) at (within_in here all))

  pub kept_listed : Within (piece body_kept (ring_state p (length p.rings)) 68 no_index) (polygon_fields p)
  unfolding block
  kept_listed =
      let n = length p.rings in
      let size : 7 + length ((each first 0 (replicate n ring)).bytes p.rings) ≡ ring_state p n =
      ap (λ (x : ℕ). 7 + x) (length-total first 0 n ring p.rings (omega arith) ∙ sym (ap (total ring) (take-length p.rings))) ∙ sym (ring_place p n) in
      within_at (block body_kept 68) {a = p.kept} size (within_in (in_second (each first 0 (replicate n ring)) (λ rs. block body_kept 68) no_index 7 (p.rings, p.kept)) after_head_in)

-- a ring that stands lists its vertices, and after them what it keeps
module _ {s : List ℕ} {at : ℕ} {r : Ring} (d : Stands ring s at r) (ix : Index) where
  after_count_in : Within ((after_count (length r.vertices)).fields ix (at + 5) (r.vertices, r.kept)) (ring.fields ix at r)
  unfolding ring into ruled
  after_count_in =
      let n = length r.vertices in
      let one = in_second (number 1 64) (λ m. after_mark) ix at (r.mark, (n, (r.vertices, r.kept))) in
      let two = within_in (in_second (at_least fewest_vertices 65) after_count ix _ (n, (r.vertices, r.kept))) one in
      within_at (after_count n) (omega (arith, length-number 1 64 r.mark, length-number 4 65 n)) two

  pub vertex_listed : (v : ℕ) {x : Vertex} → entry r.vertices v ≡ ok x → Within (vertex.fields (second v ix) (vertex_at at r v) x) (ring.fields ix at r)
  vertex_listed v e =
      let n = length r.vertices in
      let low : v ≤ n = let below = entry_below r.vertices v e in omega arith in
      let here = in_entry second ix 0 n vertex r.vertices v (at + 5) (omega arith) e in
      let all = within_in (in_first (each second 0 (replicate n vertex)) (λ vs. block ring_kept 67) ix (at + 5) (r.vertices, r.kept)) after_count_in in
      let place : at + 5 + total vertex (take v r.vertices) ≡ vertex_at at r v = ap (λ (x : ℕ). at + 5 + x) (vertices_size v r.vertices (vertices_good d) low) ∙ sym (vertex_place d v low) in
      within_at vertex place (rw (zero-add v) at (within_in here all))

  pub ring_kept_listed : Within (piece ring_kept (vertex_at at r (length r.vertices)) 67 ix) (ring.fields ix at r)
  unfolding block
  ring_kept_listed =
      let n = length r.vertices in
      let size : at + 5 + length ((each second 0 (replicate n vertex)).bytes r.vertices) ≡ vertex_at at r n =
      ap (λ (x : ℕ). at + 5 + x) (length-total second 0 n vertex r.vertices (omega arith) ∙ sym (ap (total vertex) (take-length r.vertices)) ∙ vertices_size n r.vertices (vertices_good d) (omega arith))
      ∙ sym (vertex_place d n (omega arith)) in
      within_at (block ring_kept 67) {ix = ix} {a = r.kept} size (within_in (in_second (each second 0 (replicate n vertex)) (λ vs. block ring_kept 67) ix (at + 5) (r.vertices, r.kept)) after_count_in)

-- a vertex lists its floats
floats_size : (k : ℕ) (l : List ℕ) → k ≤ length l → total (number 8 66) (take k l) ≡ 8 * k
unfolding total
floats_size zero l h = refl
floats_size (suc k) [] h = absurd (omega arith)
floats_size (suc k) (a ∷ l) h = rw (length-number 8 66 a, floats_size k l (omega arith)) (omega arith)

module _ {s : List ℕ} {at : ℕ} {x : Vertex} (d : Stands vertex s at x) (k : ℕ) {a : ℕ} (e : entry x k ≡ ok a) where
  below : k ≤ length x
  below = let h = entry_below x k e in omega arith

  three : length x ≡ 3
  unfolding vertex
  three = length-each third 0 (replicate 3 (number 8 66)) x d.good

  pub float_listed : (ix : Index) → Within (piece 8 (at + 8 * k) 66 (third k ix)) (vertex.fields ix at x)
  unfolding vertex number
  float_listed ix =
      let here = in_entry third ix 0 3 (number 8 66) x k at (omega (arith, three)) e in
      within_at (number 8 66) {ix = third k ix} {a = a} (ap (λ (n : ℕ). at + n) (floats_size k x below)) (rw (zero-add k) at here)

  pub float_stands : Stands (number 8 66) s (at + 8 * k) a
  unfolding vertex
  float_stands = stands_at_lem (ap (λ (n : ℕ). at + n) (floats_size k x below)) (stands_entry third 0 3 (number 8 66) x k d e)

-- Axis k of vertex v of ring n: one field of 8 bytes is listed for it, with these indices, and the number of these bytes is what is answered.
pub record Read (b : List ℕ) (p : Polygon) (n v k a : ℕ) : Type 0 where
  pub at : ℕ
  pub listed : Within (piece 8 at 66 (record { i = n; j = v; k = k })) (polygon_fields p)
  pub says : num_at 8 b at ≡ a

pub vertex_reads_its_bytes : (b : List ℕ) → Bytes b → (p : Polygon) → read_polygon b ≡ ok p → (n v k : ℕ) {x : Vertex} {a : ℕ} → ask_vertex b n v ≡ ok x → entry x k ≡ ok a → Read b p n v k a
vertex_reads_its_bytes b by p accepted n v k {x} e f =
    let q = bound (entry p.rings n) (rw accepted at e) in
    let r = q.0 in
    let d = ring_stands b by p accepted n q.1 in
    let low : v ≤ length r.vertices = let h = entry_below r.vertices v q.2 in omega arith in
    let w = stands_at_lem (sym (vertex_place d v low)) (vertex_stands d v low q.2) in
    record {
      at = vertex_at (ring_state p n) r v + 8 * k;
      listed = within_in (float_listed w k f (second v (first n no_index))) (within_in (vertex_listed d (first n no_index) v q.2) (ring_listed p n q.1));
      says = number_is 8 66 (float_stands w k f);
    }

-- The bytes that a ring or the body keeps: one field is listed for them, and the part that is answered has them.
pub record Kept (b : List ℕ) (p : Polygon) (at size field : ℕ) (ix : Index) (kept : List ℕ) : Type 0 where
  pub listed : Within (piece size at field ix) (polygon_fields p)
  pub says : take size (drop at b) ≡ kept

module _ (b : List ℕ) (by : Bytes b) (p : Polygon) (accepted : read_polygon b ≡ ok p) where
  pub ring_kept_reads_its_bytes : (n : ℕ) {r : Ring} → entry p.rings n ≡ ok r → Kept b p (vertex_at (ring_state p n) r (length r.vertices)) ring_kept 67 (first n no_index) r.kept
  unfolding block
  ring_kept_reads_its_bytes n {r} e =
      let d = ring_stands b by p accepted n e in
      let w = stands_at_lem (sym (vertex_place d (length r.vertices) (omega arith))) (ring_kept_stands d) in
      record { listed = within_in (ring_kept_listed d (first n no_index)) (ring_listed p n e); says = rw w.good.0 at (block_held b _ ring_kept 67 r.kept _ (stands_read (lawful_block ring_kept 67) w)) }

  pub kept_reads_its_bytes : Kept b p (ring_state p (length p.rings)) body_kept 68 no_index p.kept
  unfolding block
  kept_reads_its_bytes =
      let w = kept_stands b by p accepted in
      record { listed = kept_listed p; says = rw w.good.0 at (block_held b _ body_kept 68 p.kept _ (stands_read (lawful_block body_kept 68) w)) }
