-- The steps that a polygon spells: those that write it, in order. And what comes of them.
use Rattle.std.specs.Prelude.{ℕ, ◌^◌, ◌<◌, ◌≡◌, length, get_or}
use mathlib.Core.List.{List, [], ◌∷◌, ◌++◌, flat_map}
use Rattle.format.specs.Result.{ok}
use Rattle.format.specs.Number.{Bytes}
use Rattle.format.specs.Geography.{Vertex, Ring, Polygon, ring_kept, body_kept}
use Rattle.steps.specs.Plans.{Out}
use Rattle.steps.specs.Writings.{overlaid}
use Rattle.outline.specs.declared.State.{State}
use Rattle.outline.specs.State.{closed}
use Rattle.outline.specs.Steps.{Step, begin_area, open_ring, add_vertex, close_ring, finish_area}

-- a good vertex has three numbers
abbrev pub vertex_step : Vertex → Step
vertex_step v = add_vertex (get_or v 0 0) (get_or v 1 0) (get_or v 2 0)

abbrev pub vertex_steps : Vertex → List Step
vertex_steps v = vertex_step v ∷ []

abbrev pub ring_steps : Ring → List Step
ring_steps r = open_ring r.mark ∷ (flat_map vertex_steps r.vertices ++ (close_ring r.kept ∷ []))

-- the steps behind a polygon's begin, and all
abbrev pub polygon_rest : Polygon → List Step
polygon_rest p = flat_map ring_steps p.rings ++ (finish_area p.kept ∷ [])

abbrev pub polygon_steps : Polygon → List Step
polygon_steps p = begin_area p.edition p.internal ∷ polygon_rest p

-- What the code's types hold of a step's arguments by themselves: a byte is one, the bits of a float are 64, and a kept block has its bytes, as many as there are.
abbrev pub HeldBlock : ℕ → List ℕ → Type 0
HeldBlock n bs = (length bs ≡ n) × Bytes bs

-- a step inside an area: a begin takes no state, so it is none
abbrev pub Held : Step → Type 0
Held (begin_area edition internal) = ⊥
Held (open_ring mark) = mark < 256
Held (add_vertex x y z) = (x < 256 ^ 8) × (y < 256 ^ 8) × (z < 256 ^ 8)
Held (close_ring kept) = HeldBlock ring_kept kept
Held (finish_area kept) = HeldBlock body_kept kept

abbrev pub AllHeld : List Step → Type 0
AllHeld [] = Unit
AllHeld (s ∷ ss) = Held s × AllHeld ss

-- accepted, with the body m in front of the buffer b, and every other byte as it was
abbrev pub in_front : List ℕ → List ℕ → Out State
in_front b m = record { answer = ok (length m); state = closed (length m); buffer = overlaid b m }
