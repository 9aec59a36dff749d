-- The body of a geography keeps the laws, and so what the demands say of messages holds of bodies; and turning its holes twice restores it.
use Prim.Native.Nat.{ℕ, suc, ◌<◌}
use mathlib.Core.Path.{◌≡◌, refl, sym, ◌∙◌, ap, ap₂}
use mathlib.Core.List.{List, [], ◌∷◌, map, reverse, reverse-reverse, append-nil}
use lib.ListN.{length, replicate, length-reverse, length-map}
use lib.Seq.{drop-length}
use lib.Dec.{eqb}
use native.Mathlib.Omega.{arith}
use native.Mathlib.Nat.{zero-add}
use borrow.Author.Tests.{eqb-true, eq-eqb}
use Rattle.format.specs.Result.{Res, ok, no}
use Rattle.format.specs.Number.{Bytes}
use Rattle.format.specs.Format.{Format, number, block, ruled, into, both, each}
use Rattle.format.specs.Message.{first, second, no_index}
use Rattle.format.specs.Geography.{Vertex, vertex, Ring, ring, at_least, ringed, Polygon, polygon, polygon_fields, ring_kept, body_kept, fewest_vertices, read_whole, read_polygon, after_first, turned_ring, turned, turned_or, turned_body}
use Rattle.format.proofs.Results.{ok_same, passed, bound}
use Rattle.format.proofs.Took.{Tiles}
use Rattle.format.proofs.Owner.{Owner, owner}
use Rattle.format.proofs.Laws.{Lawful, lawful_number, lawful_block, lawful_ruled, lawful_into, lawful_both, lawful_each, all_replicate}
use Rattle.format.proofs.Lists.{All, all_reverse, all_map, each→all, all→each, each_length}

ruleset laws = (lawful_number, lawful_block, lawful_ruled, lawful_into, lawful_both, lawful_each, all_replicate)

pub lawful_vertex : Lawful vertex
unfolding vertex
lawful_vertex = search laws depth 8

pub ring_back : (v : ℕ × (ℕ × (List Vertex × List ℕ)))
    → (both (number 1 64) (λ m. both (at_least fewest_vertices 65) (λ n. both (each second 0 (replicate n vertex)) (λ vs. block ring_kept 67)))).Good v
    → ◌≡◌ {A = ℕ × (ℕ × (List Vertex × List ℕ))} (v.0, (length v.1.1.0, v.1.1)) v
unfolding both
ring_back v g = ap (λ (n : ℕ). (v.0, (n, v.1.1))) (each_length second vertex 0 v.1.0 v.1.1.0 g.1.1.0)

pub lawful_ring : Lawful ring
unfolding ring
lawful_ring = search (laws, lawful_vertex, ring_back) depth 10

pub polygon_back : (v : ℕ × (ℕ × ((ℕ × ℕ) × (List Ring × List ℕ))))
    → (both (number 1 60) (λ e. both (number 1 61) (λ i. both ringed (λ h. both (each first 0 (replicate h.1 ring)) (λ rs. block body_kept 68))))).Good v
    → ◌≡◌ {A = ℕ × (ℕ × ((ℕ × ℕ) × (List Ring × List ℕ)))} (v.0, (v.1.0, ((v.1.1.0.0, length v.1.1.1.0), v.1.1.1))) v
unfolding both
polygon_back v g = ap (λ (n : ℕ). (v.0, (v.1.0, ((v.1.1.0.0, n), v.1.1.1)))) (each_length first ring 0 v.1.1.0.1 v.1.1.1.0 g.1.1.1.0)

pub lawful_polygon : Lawful polygon
unfolding polygon
lawful_polygon = search (laws, lawful_ring, polygon_back) depth 12

-- a list read whole: accepted exactly if it is the encoding of a good value
module _ {A : Type 0} {f : Format A} (l : Lawful f) where
  pub whole→encodes : (s : List ℕ) → Bytes s → (a : A) → read_whole f s ≡ ok a → f.Good a × (f.bytes a ≡ s)
  whole→encodes s b a e =
      let r = bound (f.read s 0) e in
      let t = passed (eqb r.0.1 (length s)) _ _ r.2 in
      let w = l.sound s b 0 r.0.0 r.0.1 r.1 in
      let end : r.0.1 ≡ length s = eqb-true _ _ t.0 in
      let here : s ≡ f.bytes r.0.0 = simp (end, drop-length, append-nil) at w.1.here in
      rw (← ok_same t.1) (w.0, sym here)

  pub encodes→whole : (a : A) → f.Good a → read_whole f (f.bytes a) ≡ ok a
  encodes→whole a g =
      let n = length (f.bytes a) in
      let one : f.read (f.bytes a) 0 ≡ ok (a, n) = simp (append-nil, zero-add) at (l.complete [] [] a g) in
      simp (one, eq-eqb n n refl)

-- the demands on a body: it is accepted exactly if it is the encoding of a good polygon, and that is the one shown; it is so in one form only
pub body→encodes : (b : List ℕ) → Bytes b → (p : Polygon) → read_polygon b ≡ ok p → polygon.Good p × (polygon.bytes p ≡ b)
body→encodes = whole→encodes lawful_polygon

pub encodes→body : (p : Polygon) → polygon.Good p → read_polygon (polygon.bytes p) ≡ ok p
encodes→body = encodes→whole lawful_polygon

pub polygon_once : (p q : Polygon) → polygon.Good p → polygon.Good q → polygon.bytes p ≡ polygon.bytes q → p ≡ q
polygon_once p q g h e = ok_same (sym (encodes→body p g) ∙ (ap read_polygon e ∙ encodes→body q h))

pub body_once : (b c : List ℕ) → Bytes b → Bytes c → (p : Polygon) → read_polygon b ≡ ok p → read_polygon c ≡ ok p → b ≡ c
body_once b c x y p e f = sym (body→encodes b x p e).1 ∙ (body→encodes c y p f).1

-- and its fields stand side by side, from its first byte to its last: each byte belongs to exactly one
module _ (b : List ℕ) (by : Bytes b) (p : Polygon) (accepted : read_polygon b ≡ ok p) where
  pub inside_tiles : Tiles 0 (polygon_fields p) (length b)
  inside_tiles =
      let w = body→encodes b by p accepted in
      rw (zero-add, w.1) at (lawful_polygon.tiles no_index 0 p w.0)

  pub inside_owner : (k : ℕ) → k < length b → Owner (polygon_fields p) k
  inside_owner k low = owner (polygon_fields p) 0 (length b) k inside_tiles (omega arith) low

-- turning
module _ {A : Type 0} where
  pub first_twice : (f : List A → List A) → ((l : List A) → f (f l) ≡ l) → (l : List A) → after_first f (after_first f l) ≡ l
  first_twice f h [] = refl
  first_twice f h (a ∷ l) = ap (λ (z : List A). a ∷ z) (h l)

  pub first_length : (f : List A → List A) → ((l : List A) → length (f l) ≡ length l) → (l : List A) → length (after_first f l) ≡ length l
  first_length f h [] = refl
  first_length f h (a ∷ l) = ap suc (h l)

  pub first_all : (P : A → Type 0) (f : List A → List A) → ((l : List A) → All P l → All P (f l)) → (l : List A) → All P l → All P (after_first f l)
  first_all P f h [] p = tt
  first_all P f h (a ∷ l) p = (p.0, h l p.1)

  map-twice : (f : A → A) → ((a : A) → f (f a) ≡ a) → (l : List A) → map f (map f l) ≡ l
  map-twice f h [] = refl
  map-twice f h (a ∷ l) = ap₂ ◌∷◌ (h a) (map-twice f h l)

ring_twice : (r : Ring) → turned_ring (turned_ring r) ≡ r
ring_twice r = ap (λ (vs : List Vertex). record { mark = r.mark; vertices = vs; kept = r.kept }) (first_twice reverse reverse-reverse r.vertices)

pub turned_again : (p : Polygon) → turned (turned p) ≡ p
turned_again p = ap (λ (rs : List Ring). record { edition = p.edition; internal = p.internal; holes = p.holes; rings = rs; kept = p.kept }) (first_twice (map turned_ring) (map-twice turned_ring ring_twice) p.rings)

ring_good : (r : Ring) → ring.Good r → ring.Good (turned_ring r)
unfolding ring into both ruled
ring_good r g =
    let n = first_length reverse length-reverse r.vertices in
    let vs = all→each second vertex 0 (length r.vertices) (after_first reverse r.vertices) n
    (first_all vertex.Good reverse (all_reverse vertex.Good) r.vertices (each→all second vertex 0 (length r.vertices) r.vertices g.0.1.1.0)) in
    rw n ((g.0.0, (g.0.1.0, (vs, g.0.1.1.1))), refl)

pub turned_good : (p : Polygon) → polygon.Good p → polygon.Good (turned p)
unfolding polygon into both ruled
turned_good p g =
    let n = first_length (map turned_ring) (λ l. length-map l turned_ring) p.rings in
    let rs = all→each first ring 0 (length p.rings) (after_first (map turned_ring) p.rings) n
    (first_all ring.Good (map turned_ring) (all_map ring.Good turned_ring ring_good) p.rings (each→all first ring 0 (length p.rings) p.rings g.0.1.1.1.0)) in
    rw n ((g.0.0, (g.0.1.0, (g.0.1.1.0, (rs, g.0.1.1.1.1)))), refl)

-- a body that is accepted turns into an accepted one, which says the turned polygon; doing it twice restores every body
turned_twice_of : (bs : List ℕ) → Bytes bs → (r : Res Polygon) → read_polygon bs ≡ r → turned_body (turned_or bs r) ≡ bs
turned_twice_of bs b (no f k) e = rw e
turned_twice_of bs b (ok p) e =
    let w = body→encodes bs b p e in
    let again : read_polygon (polygon.bytes (turned p)) ≡ ok (turned p) = encodes→body (turned p) (turned_good p w.0) in
    ap (turned_or (polygon.bytes (turned p))) again ∙ (ap polygon.bytes (turned_again p) ∙ w.1)

pub turned_says : (bs : List ℕ) → Bytes bs → (p : Polygon) → read_polygon bs ≡ ok p → read_polygon (turned_body bs) ≡ ok (turned p)
turned_says bs b p e = rw e (encodes→body (turned p) (turned_good p (body→encodes bs b p e).0))

pub turned_twice : (bs : List ℕ) → Bytes bs → turned_body (turned_body bs) ≡ bs
turned_twice bs b = turned_twice_of bs b (read_polygon bs) refl
