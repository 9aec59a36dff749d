-- Steps that are accepted from a begin to a finish spell a good polygon, and so wrote it: from the last step to the first, what the rest spells is known.
use Prim.Native.Nat.{ℕ, ◌+◌, ◌^◌, ◌<◌, ◌≤◌}
use mathlib.Core.Path.{◌≡◌, refl, sym, ◌∙◌, ap, subst}
use mathlib.Core.Bool.{Bool, true, false}
use mathlib.Core.List.{List, [], ◌∷◌, ◌++◌, flat_map, append_assoc}
use lib.ListN.{length, length-append}
use lib.Dec.{leb}
use native.Mathlib.Omega.{arith}
use borrow.Author.Tests.{leb-true, le-leb, lt-ltb, eq-eqb}
use Rattle.format.specs.declared.Fault.TheVariants.{Geography}
use Rattle.format.specs.Result.{Res, ok, no, pick}
use Rattle.format.specs.Number.{half}
use Rattle.format.specs.Format.{number, block, ruled, into, both, each, nothing}
use Rattle.format.specs.Message.{first, second, unlimited}
use Rattle.format.specs.Geography.{Vertex, vertex, Ring, ring, Polygon, polygon, ring_kept, body_kept, fewest_vertices, holes_of}
use Rattle.format.proofs.Numbers.{length-num_bytes}
use Rattle.format.proofs.Results.{no_ok}
use Rattle.steps.specs.Plans.{Plan, Out, carry, after}
use Rattle.steps.proofs.Plans.{Fine}
use Rattle.steps.proofs.Back.{test_fine, All, all_good, all_bytes}
use Rattle.outline.specs.declared.State.{State}
use Rattle.outline.specs.State.{area_head, ring_head, closed, area_state, ring_state, stage_number}
use Rattle.outline.specs.Steps.{Step, begin_area, open_ring, add_vertex, close_ring, finish_area, plan, step, run}
use Rattle.outline.specs.Spells.{vertex_steps, ring_steps, polygon_steps, HeldBlock, Held, AllHeld, in_front}
use Rattle.outline.proofs.Bytes.{ring_bytes_lem, polygon_bytes, begun_size, opened_size}
use Rattle.outline.proofs.Frame.{step_ok, step_keeps}
use Rattle.outline.proofs.Writes.{polygon_writes}

-- a run that is accepted to its end, and leaves nothing open
abbrev pub Ends : Out State → Type 0
Ends o = (n : ℕ) × (o.answer ≡ ok n) × (stage_number o.state.stage ≡ 0)

abbrev Answers : ℕ → Out State → Type 0
Answers n o = o.answer ≡ ok n

-- an accepted run's first step is accepted
pub first_ok : (o : Out State) (k : State → List ℕ → Out State) (n : ℕ) → (after o k).answer ≡ ok n → (m : ℕ) × (o.answer ≡ ok m)
first_ok o k n = go o.answer refl
  where
    go : (r : Res ℕ) → o.answer ≡ r → Answers n (elim r [ ok n ↦ k o.state o.buffer | no f p ↦ o ]) → (m : ℕ) × (o.answer ≡ ok m)
    go (ok m) i e = (m, i)
    go (no f p) i e = absurd (no_ok (sym i ∙ e))

after_goes : (o : Out State) (k : State → List ℕ → Out State) (m : ℕ) → o.answer ≡ ok m → after o k ≡ k o.state o.buffer
after_goes o k m e = rw e

-- the first of some steps that are accepted to their end: its plan p is fine, and the others go on from what it leaves
record First (p : Plan State) (ss : List Step) (size : ℕ) : Type 0 where
  fine : Fine p
  fits : p.at + length p.bytes ≤ size
  buffer : List ℕ
  same : length buffer ≡ size
  ends : Ends (run ss (p.next (p.at + length p.bytes)) buffer)

first_step : (s : Step) (st : State) (ss : List Step) (b : List ℕ) (size : ℕ) → length b ≡ size → Ends (run (s ∷ ss) st b) → First (plan s st size) ss size
unfolding run
first_step s st ss b size k e = subst (λ (z : ℕ). First (plan s st z) ss z) k known
  where
    known : First (plan s st (length b)) ss (length b)
    known =
        let p = plan s st (length b) in
        let a = first_ok (step s st b) (run ss) e.0 e.1 in
        let r = step_ok s st b a.0 a.1 in
        let reached : a.0 ≡ p.at + length p.bytes = r.0.reached in
        record {
          fine = r.0.fine;
          fits = rw reached at r.0.fits;
          buffer = (step s st b).buffer;
          same = (step_keeps s st b a.0 a.1).size;
          ends = subst (λ (z : State). Ends (run ss z (step s st b).buffer)) (ap (λ (o : Out State). o.state) r.1 ∙ ap p.next reached) (subst Ends (after_goes (step s st b) (run ss) a.0 a.1) e);
        }

-- nothing but a begin is taken where nothing is open
closed_stops : (s : Step) → Held s → (n : ℕ) (ss : List Step) (b : List ℕ) → Ends (run (s ∷ ss) (closed n) b) → ⊥
unfolding run step carry
closed_stops (begin_area i j) h n ss b e = h
closed_stops (open_ring m) h n ss b e = no_ok e.1
closed_stops (add_vertex x y z) h n ss b e = no_ok e.1
closed_stops (close_ring k) h n ss b e = no_ok e.1
closed_stops (finish_area k) h n ss b e = no_ok e.1

closed_ends : (ss : List Step) → AllHeld ss → (n : ℕ) (b : List ℕ) → Ends (run ss (closed n) b) → ss ≡ []
closed_ends [] h n b e = refl
closed_ends (s ∷ ss) h n b e = absurd (closed_stops s h.0 n ss b e)

-- vertices, rings and polygons that are good
vertex_is_good : (x y z : ℕ) → (x < 256 ^ 8) × (y < 256 ^ 8) × (z < 256 ^ 8) → vertex.Good (x ∷ y ∷ z ∷ [])
unfolding vertex number each nothing
vertex_is_good x y z h = (h.0, (h.1, (h.2, refl)))

ring_is_good : (m : ℕ) (vs : List Vertex) (k : List ℕ) → m < 256 → All vertex vs → fewest_vertices ≤ length vs → length vs ≤ unlimited → HeldBlock ring_kept k
    → ring.Good (record { mark = m; vertices = vs; kept = k })
unfolding ring into both ruled number block
ring_is_good m vs k h g low high l =
    let n = length vs in
    ((h, (((omega arith, lt-ltb n (half 4) (omega arith)), le-leb fewest_vertices n low), (all_good vertex second 0 vs g, l))), refl)

holes_byte_lem : (n : ℕ) → (holes_of n < 256) × (leb (holes_of n) 1 ≡ true)
holes_byte_lem n = go (leb 2 n)
  where
    go : (t : Bool) → (pick t 1 0 < 256) × (leb (pick t 1 0) 1 ≡ true)
    go true = (omega arith, refl)
    go false = (omega arith, refl)

area_of : ℕ → ℕ → List Ring → List ℕ → Polygon
area_of e i rs k = record { edition = e; internal = i; holes = holes_of (length rs); rings = rs; kept = k }

area_is_good : (e i : ℕ) (rs : List Ring) (k : List ℕ) → e < 256 → i < 256 → All ring rs → 1 ≤ length rs → length rs ≤ unlimited → HeldBlock body_kept k → polygon.Good (area_of e i rs k)
unfolding polygon into both ruled number block area_of
area_is_good e i rs k h j g low high l =
    let n = length rs in
    let b = holes_byte_lem n in
    ((h, (j, (((b, ((omega arith, lt-ltb n (half 4) (omega arith)), le-leb 1 n low)), eq-eqb (holes_of n) (holes_of n) refl), (all_good ring first 0 rs g, l)))), refl)

-- the rings that some steps spell, from a position n on, after c others
record Rings (size c n : ℕ) (ss : List Step) : Type 0 where
  rs : List Ring
  kept : List ℕ
  good : All ring rs
  held : HeldBlock body_kept kept
  some : 1 ≤ c + length rs
  few : c + length rs ≤ unlimited
  spelled : ss ≡ flat_map ring_steps rs ++ (finish_area kept ∷ [])
  fits : n + length (flat_map ring.bytes rs) + body_kept ≤ size

-- the vertices that some steps spell, from a position n on, in a ring with k vertices, and the rings behind it
record Vertices (size c k n : ℕ) (ss : List Step) : Type 0 where
  vs : List Vertex
  kept : List ℕ
  good : All vertex vs
  held : HeldBlock ring_kept kept
  enough : fewest_vertices ≤ k + length vs
  few : k + length vs ≤ unlimited
  rest : List Step
  spelled : ss ≡ flat_map vertex_steps vs ++ (close_ring kept ∷ rest)
  rings : Rings size c (n + length (flat_map vertex.bytes vs) + ring_kept) rest

abbrev RingsFor : ℕ → List Step → Type 0
RingsFor size ss = (c n : ℕ) (b : List ℕ) → length b ≡ size → c ≤ unlimited → Ends (run ss (area_state n c) b) → Rings size c n ss

abbrev VerticesFor : ℕ → List Step → Type 0
VerticesFor size ss = (c at k n : ℕ) (b : List ℕ) → length b ≡ size → c ≤ unlimited → k ≤ unlimited → Ends (run ss (ring_state n c at k) b) → Vertices size c k n ss

module _ (size : ℕ) (ss : List Step) (held : AllHeld ss) (rings : RingsFor size ss) (vertices : VerticesFor size ss) where
  opened : (m c n : ℕ) → m < 256 → First (plan (open_ring m) (area_state n c) size) ss size → Rings size c n (open_ring m ∷ ss)
  unfolding flat_map
  opened m c n h f =
      let reached = n + length (ring.bytes (record { mark = m; vertices = []; kept = [] })) in
      let v = vertices (c + 1) n 0 reached f.buffer f.same (leb-true (c + 1) unlimited f.fine.limits) (omega arith) f.ends in
      let r : Ring = record { mark = m; vertices = v.vs; kept = v.kept } in
      let q = v.rings in
      let vb = flat_map vertex.bytes v.vs in
      let l₀ = opened_size m in
      let l₁ : length (ring.bytes r) ≡ ring_head + (length vb + ring_kept) = rw (ring_bytes_lem r, all_bytes vertex second 0 v.vs) (simp (length-append, length-num_bytes, v.held.0) (omega arith)) in
      let l₂ = length-append (ring.bytes r) (flat_map ring.bytes q.rs) in
      let few : c + 1 + length q.rs ≤ unlimited = q.few in
      let fits : reached + length vb + ring_kept + length (flat_map ring.bytes q.rs) + body_kept ≤ size = q.fits in
      let low : fewest_vertices ≤ 0 + length v.vs = v.enough in
      let high : 0 + length v.vs ≤ unlimited = v.few in
      let split : open_ring m ∷ ss ≡ ring_steps r ++ v.rest
      = ap (λ (z : List Step). open_ring m ∷ z) (v.spelled ∙ sym (append_assoc (flat_map vertex_steps v.vs) (close_ring v.kept ∷ []) v.rest)) in
      record {
        rs = r ∷ q.rs;
        kept = q.kept;
        good = (ring_is_good m v.vs v.kept h v.good (omega arith) (omega arith) v.held, q.good);
        held = q.held;
        some = omega arith;
        few = omega arith;
        spelled = split ∙ (ap (λ (z : List Step). ring_steps r ++ z) q.spelled ∙ sym (append_assoc (ring_steps r) (flat_map ring_steps q.rs) (finish_area q.kept ∷ [])));
        fits = omega arith;
      }

  finished : (k : List ℕ) (c n : ℕ) → HeldBlock body_kept k → c ≤ unlimited → First (plan (finish_area k) (area_state n c) size) ss size → Rings size c n (finish_area k ∷ ss)
  unfolding flat_map
  finished k c n h m f =
      let low = leb-true 1 c (test_fine (leb 1 c) Geography n f.fine.faultless) in
      let fits : n + length k ≤ size = f.fits in
      record {
        rs = [];
        kept = k;
        good = tt;
        held = h;
        some = omega arith;
        few = omega arith;
        spelled = ap (λ (z : List Step). finish_area k ∷ z) (closed_ends ss held _ f.buffer f.ends);
        fits = omega (arith, h.0);
      }

  added : (x y z c at k n : ℕ) → (x < 256 ^ 8) × (y < 256 ^ 8) × (z < 256 ^ 8) → c ≤ unlimited → First (plan (add_vertex x y z) (ring_state n c at k) size) ss size
      → Vertices size c k n (add_vertex x y z ∷ ss)
  unfolding flat_map
  added x y z c at k n h m f =
      let u = x ∷ y ∷ z ∷ [] in
      let v = vertices c at (k + 1) (n + length (vertex.bytes u)) f.buffer f.same m (leb-true (k + 1) unlimited f.fine.limits) f.ends in
      let sum = length-append (vertex.bytes u) (flat_map vertex.bytes v.vs) in
      let far : n + length (vertex.bytes u) + length (flat_map vertex.bytes v.vs) + ring_kept ≡ n + length (vertex.bytes u ++ flat_map vertex.bytes v.vs) + ring_kept = omega arith in
      let low : fewest_vertices ≤ k + 1 + length v.vs = v.enough in
      let high : k + 1 + length v.vs ≤ unlimited = v.few in
      record {
        vs = u ∷ v.vs;
        kept = v.kept;
        good = (vertex_is_good x y z h, v.good);
        held = v.held;
        enough = omega arith;
        few = omega arith;
        rest = v.rest;
        spelled = ap (λ (l : List Step). add_vertex x y z ∷ l) v.spelled;
        rings = subst (λ (l : ℕ). Rings size c l v.rest) far v.rings;
      }

  ring_closed : (q : List ℕ) (c at k n : ℕ) → HeldBlock ring_kept q → c ≤ unlimited → k ≤ unlimited → First (plan (close_ring q) (ring_state n c at k) size) ss size → Vertices size c k n (close_ring q ∷ ss)
  unfolding flat_map
  ring_closed q c at k n h m o f =
      let low = leb-true fewest_vertices k (test_fine (leb fewest_vertices k) Geography n f.fine.faultless) in
      let far : n + length q ≡ n + 0 + ring_kept = omega (arith, h.0) in
      record {
        vs = [];
        kept = q;
        good = tt;
        held = h;
        enough = omega arith;
        few = omega arith;
        rest = ss;
        spelled = refl;
        rings = subst (λ (l : ℕ). Rings size c l ss) far (rings c (n + length q) f.buffer f.same m f.ends);
      }

  rings_step : (s : Step) → Held s → RingsFor size (s ∷ ss)
  unfolding run step carry
  rings_step (begin_area i j) h c n b k m e = absurd h
  rings_step (open_ring u) h c n b k m e = opened u c n h (first_step (open_ring u) (area_state n c) ss b size k e)
  rings_step (add_vertex x y z) h c n b k m e = absurd (no_ok e.1)
  rings_step (close_ring q) h c n b k m e = absurd (no_ok e.1)
  rings_step (finish_area q) h c n b k m e = finished q c n h m (first_step (finish_area q) (area_state n c) ss b size k e)

  vertices_step : (s : Step) → Held s → VerticesFor size (s ∷ ss)
  unfolding run step carry
  vertices_step (begin_area i j) h c at k n b l m o e = absurd h
  vertices_step (open_ring u) h c at k n b l m o e = absurd (no_ok e.1)
  vertices_step (add_vertex x y z) h c at k n b l m o e = added x y z c at k n h m (first_step (add_vertex x y z) (ring_state n c at k) ss b size l e)
  vertices_step (close_ring q) h c at k n b l m o e = ring_closed q c at k n h m o (first_step (close_ring q) (ring_state n c at k) ss b size l e)
  vertices_step (finish_area q) h c at k n b l m o e = absurd (no_ok e.1)

rings_and_vertices : (size : ℕ) (ss : List Step) → AllHeld ss → RingsFor size ss × VerticesFor size ss
unfolding run
rings_and_vertices size [] h = ((λ c n b k m e. absurd (one≢zero e.2)), (λ c at k n b l m o e. absurd (two≢zero e.2)))
  where
    one≢zero : ◌≡◌ {A = ℕ} 1 0 → ⊥
    one≢zero e = omega arith

    two≢zero : ◌≡◌ {A = ℕ} 2 0 → ⊥
    two≢zero e = omega arith
rings_and_vertices size (s ∷ ss) h =
    let r = rings_and_vertices size ss h.1 in
    (rings_step size ss h.1 r.0 r.1 s h.0, vertices_step size ss h.1 r.0 r.1 s h.0)

-- what some steps say, where they are the steps of a good polygon, and there is room for it
pub record Said (ss : List Step) (size : ℕ) : Type 0 where
  pub area : Polygon
  pub good : polygon.Good area
  pub spelled : ss ≡ polygon_steps area
  pub room : length (polygon.bytes area) ≤ size

-- steps from a begin on that are accepted, and leave nothing open, are those of a good polygon
pub steps_spell : (e i : ℕ) → e < 256 → i < 256 → (ss : List Step) → AllHeld ss → (st : State) (b : List ℕ) → Ends (run (begin_area e i ∷ ss) st b) → Said (begin_area e i ∷ ss) (length b)
unfolding area_of
steps_spell e i h j ss held st b ended =
    let f = first_step (begin_area e i) st ss b (length b) refl ended in
    let w₀ = polygon.bytes (record { edition = e; internal = i; holes = 0; rings = []; kept = [] }) in
    let r = (rings_and_vertices (length b) ss held).0 0 (0 + length w₀) f.buffer f.same (omega arith) f.ends in
    let rs = r.rs in
    let p = area_of e i rs r.kept in
    let rb = flat_map ring.bytes rs in
    let l₀ = begun_size e i in
    let l₁ : length (polygon.bytes p) ≡ area_head + (length rb + body_kept) = rw (polygon_bytes p, all_bytes ring first 0 rs) (simp (length-append, length-num_bytes, r.held.0) (omega arith)) in
    let fits : 0 + length w₀ + length rb + body_kept ≤ length b = r.fits in
    let some : 1 ≤ 0 + length rs = r.some in
    let few : 0 + length rs ≤ unlimited = r.few in
    record {
      area = p;
      good = area_is_good e i rs r.kept h j r.good (omega arith) (omega arith) r.held;
      spelled = ap (λ (l : List Step). begin_area e i ∷ l) r.spelled;
      room = omega arith;
    }

-- and so they wrote it, and left all behind it as it was
pub steps_wrote : (e i : ℕ) → e < 256 → i < 256 → (ss : List Step) → AllHeld ss → (st : State) (b : List ℕ) → Ends (run (begin_area e i ∷ ss) st b)
    → (said : Said (begin_area e i ∷ ss) (length b)) × (run (begin_area e i ∷ ss) st b ≡ in_front b (polygon.bytes said.area))
steps_wrote e i h j ss held st b ended =
    let s = steps_spell e i h j ss held st b ended in
    (s, rw s.spelled (polygon_writes s.area s.good st b s.room))
