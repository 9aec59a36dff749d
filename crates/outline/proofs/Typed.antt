-- What a good polygon spells is of the functions' types: its bytes are bytes and its numbers fit. So the functions can be called with it.
use Prim.Native.Nat.{ℕ, zero, suc, ◌+◌, ◌<◌}
use mathlib.Core.Path.{◌≡◌, sym, ap, subst}
use mathlib.Core.List.{List, [], ◌∷◌, ◌++◌, flat_map}
use lib.ListN.{length, replicate, get_or}
use native.Mathlib.Omega.{arith}
use Rattle.format.specs.Format.{Format, Index, number, each, nothing}
use Rattle.format.specs.Message.{first, second}
use Rattle.format.specs.Geography.{Vertex, vertex, Ring, ring, Polygon, polygon}
use Rattle.outline.specs.Steps.{Step, close_ring, finish_area}
use Rattle.outline.specs.Spells.{vertex_steps, ring_steps, polygon_rest, AllHeld}
use Rattle.outline.proofs.Writes.{three, good_ring, good_polygon}

all_both : (xs ys : List Step) → AllHeld xs → AllHeld ys → AllHeld (xs ++ ys)
all_both [] ys h k = k
all_both (x ∷ xs) ys h k = (h.0, all_both xs ys h.1 k)

module _ {A : Type 0} (f : Format A) (steps : A → List Step) (each-held : (a : A) → f.Good a → AllHeld (steps a)) (at-index : ℕ → Index → Index) where
  many_held : (k n : ℕ) (l : List A) → (each at-index k (replicate n f)).Good l → AllHeld (flat_map steps l)
  unfolding each nothing flat_map
  many_held k n [] g = tt
  many_held k zero (a ∷ l) g = let z : ◌≡◌ {A = ℕ} (suc (length l)) 0 = ap length g in absurd (omega arith)
  many_held k (suc n) (a ∷ l) g = all_both (steps a) (flat_map steps l) (each-held a g.0) (many_held (k + 1) n l g.1)

vertex_held : (v : Vertex) → vertex.Good v → AllHeld (vertex_steps v)
unfolding vertex number each nothing
vertex_held v g =
    let h : vertex.Good (get_or v 0 0 ∷ get_or v 1 0 ∷ get_or v 2 0 ∷ []) = subst (λ (u : Vertex). vertex.Good u) (sym (three v g)) g in
    ((h.0, h.1.0, h.1.1.0), tt)

ring_held : (r : Ring) → ring.Good r → AllHeld (ring_steps r)
ring_held r g =
    let h = good_ring r g in
    (h.mark, all_both (flat_map vertex_steps r.vertices) (close_ring r.kept ∷ []) (many_held vertex vertex_steps vertex_held second 0 (length r.vertices) r.vertices h.vertices) (h.kept, tt))

-- the arguments of the calls that a good polygon spells are of the functions' types
pub good_held : (p : Polygon) → polygon.Good p → (p.edition < 256) × (p.internal < 256) × AllHeld (polygon_rest p)
good_held p g =
    let h = good_polygon p g in
    (h.edition, h.internal, all_both (flat_map ring_steps p.rings) (finish_area p.kept ∷ []) (many_held ring ring_steps ring_held first 0 (length p.rings) p.rings h.rings) (h.kept, tt))
