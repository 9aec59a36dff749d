-- The steps of a good polygon write it: vertex by vertex, ring by ring, each behind what is there; a count is filled when its thing is closed.
use Prim.Native.Nat.{ℕ, ◌+◌, ◌<◌, ◌≤◌}
use mathlib.Core.Path.{◌≡◌, refl, sym, ◌∙◌, ap, subst}
use mathlib.Core.Bool.{true}
use mathlib.Core.List.{List, [], ◌∷◌, ◌++◌, append_assoc}
use lib.ListN.{length, replicate, get_or, length-append}
use native.Mathlib.Omega.{arith}
use native.Mathlib.Nat.{zero-add}
use borrow.Author.Tests.{le-leb, leb-true, ltb-true, eqb-true}
use Rattle.format.specs.Number.{num_bytes, Bytes, half}
use Rattle.format.specs.Format.{number, block, ruled, into, both, each}
use Rattle.format.specs.Message.{first, second, third, unlimited}
use Rattle.format.specs.Geography.{Vertex, vertex, Ring, ring, Polygon, polygon, ring_kept, body_kept, fewest_vertices, holes_of}
use Rattle.format.proofs.Numbers.{length-num_bytes}
use Rattle.format.proofs.Lists.{each_length}
use Rattle.put.specs.Put.{put}
use Rattle.steps.specs.Writings.{overlaid}
use Rattle.steps.proofs.Buffers.{filled_in}
use Rattle.outline.specs.declared.Outline.TheVariants.{Area, Ring as InRing}
use Rattle.outline.specs.declared.State.{State}
use Rattle.outline.specs.State.{area_head, ring_head, closed, area_state, ring_state, sound, at_stage}
use Rattle.outline.specs.Steps.{begin_area, open_ring, add_vertex, close_ring, finish_area, run}
use Rattle.outline.specs.Spells.{vertex_steps, ring_steps, polygon_steps, in_front}
use Rattle.outline.proofs.Bytes.{ring_bytes_lem, polygon_bytes, begun_bytes, begun_size, opened_bytes, opened_size}
use Rattle.outline.proofs.Goes.{Goes, goes_whole, goes_both, goes_one, goes_list}

pub area_sound : (n c size : ℕ) → area_head ≤ n → n ≤ size → c ≤ unlimited → at_stage Area (area_state n c) size ≡ true
unfolding sound
area_sound n c size h i j = simp (le-leb _ _ h, le-leb _ _ i, le-leb _ _ j)

pub ring_sound : (n c at k size : ℕ) → c ≤ unlimited → area_head ≤ at → at + ring_head ≤ n → n ≤ size → k ≤ unlimited → at_stage InRing (ring_state n c at k) size ≡ true
unfolding sound
ring_sound n c at k size h i j l m = simp (le-leb _ _ h, le-leb _ _ i, le-leb _ _ j, le-leb _ _ l, le-leb _ _ m)

-- a good vertex has three numbers
pub three : (v : Vertex) → vertex.Good v → get_or v 0 0 ∷ get_or v 1 0 ∷ get_or v 2 0 ∷ [] ≡ v
unfolding vertex
three v g = by_length v (each_length third (number 8 66) 0 3 v g)
  where
    by_length : (v : Vertex) → length v ≡ 3 → get_or v 0 0 ∷ get_or v 1 0 ∷ get_or v 2 0 ∷ [] ≡ v
    by_length [] e = absurd (omega arith)
    by_length (x ∷ []) e = absurd (omega arith)
    by_length (x ∷ (y ∷ [])) e = absurd (omega arith)
    by_length (x ∷ (y ∷ (z ∷ []))) e = refl
    by_length (x ∷ (y ∷ (z ∷ (w ∷ l)))) e = absurd (omega arith)

-- what a good ring and a good polygon are
pub record GoodRing (r : Ring) : Type 0 where
  pub mark : r.mark < 256
  pub enough : fewest_vertices ≤ length r.vertices
  pub few : length r.vertices ≤ unlimited
  pub vertices : (each second 0 (replicate (length r.vertices) vertex)).Good r.vertices
  pub kept : (length r.kept ≡ ring_kept) × Bytes r.kept

pub good_ring : (r : Ring) → ring.Good r → GoodRing r
unfolding ring into both ruled number block
good_ring r g =
    let n = length r.vertices in
    let count = g.0.1.0 in
    let low = ltb-true n (half 4) count.0.1 in
    record { mark = g.0.0; enough = leb-true fewest_vertices n count.1; few = omega arith; vertices = g.0.1.1.0; kept = g.0.1.1.1 }

pub record GoodPolygon (p : Polygon) : Type 0 where
  pub edition : p.edition < 256
  pub internal : p.internal < 256
  pub holes : p.holes ≡ holes_of (length p.rings)
  pub some : 1 ≤ length p.rings
  pub few : length p.rings ≤ unlimited
  pub rings : (each first 0 (replicate (length p.rings) ring)).Good p.rings
  pub kept : (length p.kept ≡ body_kept) × Bytes p.kept

pub good_polygon : (p : Polygon) → polygon.Good p → GoodPolygon p
unfolding polygon into both ruled number block
good_polygon p g =
    let n = length p.rings in
    let head = g.0.1.1.0 in
    let count = head.0.1 in
    let low = ltb-true n (half 4) count.0.1 in
    record {
      edition = g.0.0;
      internal = g.0.1.0;
      holes = eqb-true p.holes (holes_of n) head.1;
      some = leb-true 1 n count.1;
      few = omega arith;
      rings = g.0.1.1.1.0;
      kept = g.0.1.1.1.1;
    }

module _ (b : List ℕ) (high : ℕ) (fits : high ≤ length b) where
  vertex_goes : (c at : ℕ) → c ≤ unlimited → area_head ≤ at → (v : Vertex) → vertex.Good v → (k : ℕ) (w : List ℕ) → k < unlimited → at + ring_head ≤ length w → length (w ++ vertex.bytes v) ≤ high
      → Goes b (vertex_steps v) (ring_state (length w) c at k) w (ring_state (length (w ++ vertex.bytes v)) c at (k + 1)) (w ++ vertex.bytes v)
  vertex_goes c at h i v g k w m lo hi =
      let u = get_or v 0 0 ∷ get_or v 1 0 ∷ get_or v 2 0 ∷ [] in
      let same : u ≡ v = three v g in
      let sum = length-append w (vertex.bytes v) in
      subst (λ (z : Vertex). Goes b (vertex_steps v) (ring_state (length w) c at k) w (ring_state (length (w ++ vertex.bytes z)) c at (k + 1)) (w ++ vertex.bytes z)) same
      (goes_one b high fits (add_vertex (get_or v 0 0) (get_or v 1 0) (get_or v 2 0)) (ring_state (length w) c at k) w (w ++ vertex.bytes u)
      (record { permitted = ring_sound (length w) c at k (length b) h i lo (omega arith) (omega arith); faultless = refl; limits = le-leb (k + 1) unlimited (omega arith) })
      refl (subst (λ (z : Vertex). length (w ++ vertex.bytes z) ≤ high) (sym same) hi) refl)

  -- a ring that is opened, filled and closed
  ring_goes : (r : Ring) → ring.Good r → (c : ℕ) (w : List ℕ) → c < unlimited → area_head ≤ length w → length (w ++ ring.bytes r) ≤ high
      → Goes b (ring_steps r) (area_state (length w) c) w (area_state (length (w ++ ring.bytes r)) (c + 1)) (w ++ ring.bytes r)
  ring_goes r g c w m lo hi =
      let good = good_ring r g in
      let n = length r.vertices in
      let vs = (each second 0 (replicate n vertex)).bytes r.vertices in
      let whole = w ++ ring.bytes r in
      let w₁ = w ++ ring.bytes (record { mark = r.mark; vertices = []; kept = [] }) in
      let w₂ = w₁ ++ vs in
      let u = w ++ num_bytes 1 r.mark in
      let start : w₁ ≡ u ++ num_bytes 4 0 = rw opened_bytes (simp append_assoc) in
      let now : w₂ ++ r.kept ≡ u ++ (num_bytes 4 0 ++ (vs ++ r.kept)) = rw start (simp append_assoc) in
      let then : whole ≡ u ++ (num_bytes 4 n ++ (vs ++ r.kept)) = rw ring_bytes_lem (simp append_assoc) in
      let l₀ : length u ≡ length w + 1 = length-append w (num_bytes 1 r.mark) ∙ rw length-num_bytes in
      let l₁ : length w₁ ≡ length w + ring_head = length-append w (ring.bytes (record { mark = r.mark; vertices = []; kept = [] })) ∙ rw opened_size in
      let l₂ : length w₂ ≡ length w₁ + length vs = length-append w₁ vs in
      let l₃ : length (w₂ ++ r.kept) ≡ length w₂ + length r.kept = length-append w₂ r.kept in
      let same : length (w₂ ++ r.kept) ≡ length whole = rw (now, then) (simp (length-append, length-num_bytes)) in
      let few : n ≤ unlimited = good.few in
      let opens = goes_one b high fits (open_ring r.mark) (area_state (length w) c) w w₁
      (record { permitted = area_sound (length w) c (length b) lo (omega arith) (omega arith); faultless = refl; limits = le-leb (c + 1) unlimited (omega arith) }) refl (omega arith) refl in
      let fills = rw zero-add at (goes_list b high fits vertex vertex_steps (λ k z. ring_state z (c + 1) (length w) k) (length w + ring_head) unlimited
      (vertex_goes (c + 1) (length w) (omega arith) lo) second 0 r.vertices good.vertices 0 w₁ (omega arith) (omega arith) (omega arith)) in
      let closes = goes_one b high fits (close_ring r.kept) (ring_state (length w₂) (c + 1) (length w) n) w₂ whole
      (record {
        permitted = ring_sound (length w₂) (c + 1) (length w) n (length b) (omega arith) lo (omega arith) (omega arith) few;
        faultless = simp (le-leb fewest_vertices n good.enough);
        limits = refl;
      }) refl (omega arith) (filled_in b (w₂ ++ r.kept) whole u (vs ++ r.kept) 4 n (length w + 1) (sym l₀) now then) in
      goes_both opens (goes_both fills (rw same at closes))

  polygon_goes : (p : Polygon) → polygon.Good p → high ≡ length (polygon.bytes p) → (st : State) → Goes b (polygon_steps p) st [] (closed (length (polygon.bytes p))) (polygon.bytes p)
  polygon_goes p g whole_is st =
      let good = good_polygon p g in
      let n = length p.rings in
      let rs = (each first 0 (replicate n ring)).bytes p.rings in
      let whole = polygon.bytes p in
      let w₀ = polygon.bytes (record { edition = p.edition; internal = p.internal; holes = 0; rings = []; kept = [] }) in
      let w₁ = w₀ ++ rs in
      let u = num_bytes 1 p.edition ++ num_bytes 1 p.internal in
      let h = holes_of n in
      let start : w₀ ≡ u ++ (num_bytes 1 0 ++ num_bytes 4 0) = rw begun_bytes (simp append_assoc) in
      let now : w₁ ++ p.kept ≡ u ++ (num_bytes 1 0 ++ (num_bytes 4 0 ++ (rs ++ p.kept))) = rw start (simp append_assoc) in
      let mid = u ++ (num_bytes 1 h ++ (num_bytes 4 0 ++ (rs ++ p.kept))) in
      let then : whole ≡ u ++ (num_bytes 1 h ++ (num_bytes 4 n ++ (rs ++ p.kept))) = rw (polygon_bytes, good.holes) (simp append_assoc) in
      let l₀ : length w₀ ≡ area_head = begun_size p.edition p.internal in
      let l₁ : length w₁ ≡ length w₀ + length rs = length-append w₀ rs in
      let l₂ : length (w₁ ++ p.kept) ≡ length w₁ + length p.kept = length-append w₁ p.kept in
      let same : length (w₁ ++ p.kept) ≡ length whole = rw (now, then) (simp (length-append, length-num_bytes)) in
      let few : n ≤ unlimited = good.few in
      let filled : put (put (overlaid b (w₁ ++ p.kept)) 2 (num_bytes 1 h)) 3 (num_bytes 4 n) ≡ overlaid b whole
      = ap (λ (x : List ℕ). put x 3 (num_bytes 4 n)) (filled_in b (w₁ ++ p.kept) mid u (num_bytes 4 0 ++ (rs ++ p.kept)) 1 h 2 (sym (simp (length-append, length-num_bytes))) now refl)
      ∙ filled_in b mid whole (u ++ num_bytes 1 h) (rs ++ p.kept) 4 n 3 (sym (simp (length-append, length-num_bytes))) (simp append_assoc) (then ∙ simp append_assoc) in
      let opens = goes_one b high fits (begin_area p.edition p.internal) st [] w₀ (record { permitted = refl; faultless = refl; limits = refl }) refl (omega arith) refl in
      let fills = rw zero-add at (goes_list b high fits ring ring_steps (λ k z. area_state z k) area_head unlimited ring_goes first 0 p.rings good.rings 0 w₀ (omega arith) (omega arith) (omega arith)) in
      let closes = goes_one b high fits (finish_area p.kept) (area_state (length w₁) n) w₁ whole
      (record { permitted = area_sound (length w₁) n (length b) (omega arith) (omega arith) few; faultless = simp (le-leb 1 n good.some); limits = refl }) refl (omega arith) filled in
      goes_both opens (goes_both fills (rw same at closes))

-- the steps of a good polygon, from any state and on any buffer that has room, are accepted; they write it, and nothing behind it
pub polygon_writes : (p : Polygon) → polygon.Good p → (st : State) (b : List ℕ) → let m = polygon.bytes p in length m ≤ length b → run (polygon_steps p) st b ≡ in_front b m
polygon_writes p g st b room = goes_whole (polygon_goes b (length (polygon.bytes p)) room p g refl st)
