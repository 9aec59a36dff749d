-- The state of an area that is being written. It is the code's own: five numbers say all of it. What isn't open is 0.
use Rattle.std.specs.Prelude.{ℕ, ◌+◌, Bool, true, ◌&&◌, leb, eqb}
use Rattle.format.specs.Message.{unlimited}
use Rattle.outline.specs.declared.Outline.{Outline}
use Rattle.outline.specs.declared.Outline.TheVariants.{Closed, Area, Ring}
use Rattle.outline.specs.declared.State.{State}

-- how many bytes an area has before its rings, and a ring before its vertices
abbrev pub area_head : ℕ
area_head = 7

abbrev pub ring_head : ℕ
ring_head = 5

-- nothing is open, before an area or after one that ends at a position
abbrev pub closed : ℕ → State
closed n = record { stage = Closed; position = n; rings = 0; ring_at = 0; vertices = 0 }

-- between rings, with so many of them
abbrev pub area_state : ℕ → ℕ → State
area_state n rings = record { stage = Area; position = n; rings = rings; ring_at = 0; vertices = 0 }

-- in a ring that began at a place, with so many vertices
abbrev pub ring_state : ℕ → ℕ → ℕ → ℕ → State
ring_state n rings at vertices = record { stage = Ring; position = n; rings = rings; ring_at = at; vertices = vertices }

abbrev pub stage_number : Outline → ℕ
stage_number Closed = 0
stage_number Area = 1
stage_number Ring = 2

-- The places and counts of a state, in a buffer of so many bytes: the area's head ends by the open ring, the ring's head by the position, the position by
-- the buffer's end, and a count is one that its four bytes can say. What isn't open at the stage isn't looked at.
unfoldable pub sound : Outline → State → ℕ → Bool
sound Closed st size = true
sound Area st size = leb area_head st.position && (leb st.position size && leb st.rings unlimited)
sound Ring st size =
    leb st.rings unlimited
    && (leb area_head st.ring_at && (leb (st.ring_at + ring_head) st.position && (leb st.position size && leb st.vertices unlimited)))

-- a step at a stage that permits it, in a state that is sound: if not, it is refused 13
abbrev pub at_stage : Outline → State → ℕ → Bool
at_stage stage st size = eqb (stage_number st.stage) (stage_number stage) && sound stage st size
