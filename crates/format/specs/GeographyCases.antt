-- The document's polygon (Table WirePoly, with zeros for its floats), the places of its fields as printed there, and the refusals of its neighbours; and which vertices
-- stay where they are when an area is turned.
use Rattle.std.specs.Prelude.{ℕ, ◌≡◌, refl, List, [], ◌∷◌, ◌++◌, map, replicate}
use Rattle.format.specs.declared.Fault.{Fault}
use Rattle.format.specs.declared.Fault.TheVariants.{Short, Negative, Extra, Geography}
use Rattle.format.specs.Result.{Res, ok, no}
use Rattle.format.specs.Number.{num_at, num_bytes}
use Rattle.format.specs.Format.{Entry, number, block, nothing, ruled, into, both, each}
use Rattle.format.specs.Geography.{Ring, Polygon, vertex, ring, polygon, read_polygon, polygon_fields, turned}

-- a ring of so many vertices
abbrev rounds : ℕ → ℕ → List ℕ
rounds count zeros = 0 ∷ 0 ∷ 0 ∷ 0 ∷ count ∷ replicate zeros 0

-- the third byte, the first and the last byte of the ring count, the vertex count of the first ring; then the second ring and the 33 bytes
abbrev body : ℕ → ℕ → ℕ → ℕ → List ℕ
body holes sign count vertices = 0 ∷ 1 ∷ holes ∷ sign ∷ 0 ∷ 0 ∷ count ∷ (rounds vertices 134 ++ (rounds 4 134 ++ replicate 33 0))

-- what comes of it: the fields' places, sizes and numbers, or the refusal
pub data Outcome : Type 0 where
  accepted : List ℕ → List ℕ → List ℕ → Outcome
  refused : Fault → ℕ → Outcome

abbrev pub outcome : Res Polygon → Outcome
outcome (ok p) = let es = polygon_fields p in accepted (map (λ (e : Entry). e.at) es) (map (λ (e : Entry). e.size) es) (map (λ (e : Entry). e.field) es)
outcome (no f k) = refused f k

abbrev places : List ℕ
places = 0 ∷ 1 ∷ 2 ∷ 3 ∷ 7 ∷ 8 ∷ 12 ∷ 20 ∷ 28 ∷ 36 ∷ 44 ∷ 52 ∷ 60 ∷ 68 ∷ 76 ∷ 84 ∷ 92 ∷ 100 ∷ 108 ∷ 146 ∷ 147 ∷ 151 ∷ 159 ∷ 167 ∷ 175 ∷ 183 ∷ 191 ∷ 199 ∷ 207 ∷ 215 ∷ 223 ∷ 231 ∷ 239 ∷ 247 ∷ 285 ∷ []

abbrev sizes : List ℕ
sizes = 1 ∷ 1 ∷ 1 ∷ 4 ∷ 1 ∷ 4 ∷ 8 ∷ 8 ∷ 8 ∷ 8 ∷ 8 ∷ 8 ∷ 8 ∷ 8 ∷ 8 ∷ 8 ∷ 8 ∷ 8 ∷ 38 ∷ 1 ∷ 4 ∷ 8 ∷ 8 ∷ 8 ∷ 8 ∷ 8 ∷ 8 ∷ 8 ∷ 8 ∷ 8 ∷ 8 ∷ 8 ∷ 8 ∷ 38 ∷ 33 ∷ []

abbrev fields : List ℕ
fields = 60 ∷ 61 ∷ 62 ∷ 63 ∷ 64 ∷ 65 ∷ 66 ∷ 66 ∷ 66 ∷ 66 ∷ 66 ∷ 66 ∷ 66 ∷ 66 ∷ 66 ∷ 66 ∷ 66 ∷ 66 ∷ 67 ∷ 64 ∷ 65 ∷ 66 ∷ 66 ∷ 66 ∷ 66 ∷ 66 ∷ 66 ∷ 66 ∷ 66 ∷ 66 ∷ 66 ∷ 66 ∷ 66 ∷ 67 ∷ 68 ∷ []

pub polygons_right : map (λ bs. outcome (read_polygon bs))
    (body 1 0 2 4 ∷ body 2 0 2 4 ∷ body 0 0 2 4 ∷ body 1 0 0 4 ∷ body 0 0 0 4 ∷ body 1 128 2 4 ∷ body 2 128 2 4 ∷ body 0 128 2 4 ∷ body 1 0 2 2 ∷ body 1 0 3 4 ∷ (body 1 0 2 4 ++ (0 ∷ [])) ∷ (0 ∷ 1 ∷ []) ∷ [])
    ≡ accepted places sizes fields ∷ refused Geography 2 ∷ refused Geography 2 ∷ refused Geography 3 ∷ refused Geography 3 ∷ refused Negative 3 ∷ refused Geography 2 ∷ refused Negative 3 ∷ refused Geography 8
    ∷ refused Geography 286 ∷ refused Extra 318 ∷ refused Short 2 ∷ []
unfolding num_at num_bytes number block nothing ruled into both each vertex ring polygon
polygons_right = refl

-- a ring whose vertices are told apart by one number each, and an area of such rings
abbrev round : List ℕ → Ring
round marks = record { mark = 0; vertices = map (λ m. m ∷ m ∷ m ∷ []) marks; kept = [] }

abbrev area : List Ring → Polygon
area rings = record { edition = 0; internal = 1; holes = 1; rings = rings; kept = [] }

-- the first ring stays as it is; of each other the first vertex stays, and the others come in reverse order
pub turns_right : turned (area (round (1 ∷ 2 ∷ 3 ∷ []) ∷ round (4 ∷ 5 ∷ 6 ∷ 7 ∷ []) ∷ round (8 ∷ 9 ∷ 10 ∷ []) ∷ []))
    ≡ area (round (1 ∷ 2 ∷ 3 ∷ []) ∷ round (4 ∷ 7 ∷ 6 ∷ 5 ∷ []) ∷ round (8 ∷ 10 ∷ 9 ∷ []) ∷ [])
turns_right = refl
