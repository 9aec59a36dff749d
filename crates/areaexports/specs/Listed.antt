-- A ring and a vertex as three numbers in a lent list.
use Rattle.std.specs.Prelude.{ℕ, List, [], ◌∷◌}
use Rattle.format.specs.Geography.{Vertex}
use Rattle.areas.specs.declared.RingLayout.{RingLayout}

-- where a ring begins, its mark, and how many vertices it has
abbrev pub ring_numbers : RingLayout → List ℕ
ring_numbers r = r.at ∷ r.mark ∷ r.vertices ∷ []

-- a vertex is the bits of its x, y and z as it is
abbrev pub axes : Vertex → List ℕ
axes v = v
