-- The steps that write an area: what each one asks, writes, fills and leaves. One table, `plan`, says it; `step` carries a plan out, as the writer's steps are.
-- What is written is said by the formats of the body, so that nothing about the wire is said here.
use Rattle.std.specs.Prelude.{ℕ, ◌+◌, Bool, true, List, [], ◌∷◌, length, leb}
use Rattle.format.specs.declared.Fault.TheVariants.{Geography}
use Rattle.format.specs.Result.{ok}
use Rattle.format.specs.Format.{Verdict, fine}
use Rattle.format.specs.Message.{unlimited}
use Rattle.format.specs.Geography.{vertex, ring, polygon, holes_of, fewest_vertices}
use Rattle.steps.specs.Plans.{Fill, Plan, Out, carry, after, test}
use Rattle.outline.specs.declared.Outline.TheVariants.{Area, Ring}
use Rattle.outline.specs.declared.State.{State}
use Rattle.outline.specs.State.{closed, area_state, ring_state, at_stage}

-- the steps, with their arguments
pub data Step : Type 0 where
  begin_area : ℕ → ℕ → Step  -- encoding version, internal
  open_ring : ℕ → Step  -- the ring's byte
  add_vertex : ℕ → ℕ → ℕ → Step  -- the bits of x, y and z
  close_ring : List ℕ → Step  -- the ring's kept bytes
  finish_area : List ℕ → Step  -- the area's kept bytes

-- A plan: what it asks, what it writes and fills, what it leaves. A body has no limit of its own, so the most that a step may reach is what it does reach.
abbrev pub writing : (permitted : Bool) (faults : Verdict) (limits : Bool) → (at : ℕ) (bytes : List ℕ) (fills : List Fill) → (next : ℕ → State) → Plan State
writing permitted faults limits at bs fills next =
    record { permitted = permitted; faults = faults; limits = limits; most = at + length bs; at = at; bytes = bs; fills = fills; next = next }

-- What a begin and an opened ring write are the bytes of a polygon and of a ring that have nothing yet: the third byte and the counts hold zeros. The third byte stands
-- at 2, the ring count behind it, a vertex count behind its ring's byte.
abbrev pub plan : Step → State → ℕ → Plan State
plan (begin_area edition internal) st size =
    writing true fine true
    0 (polygon.bytes (record { edition = edition; internal = internal; holes = 0; rings = []; kept = [] })) []
    (λ n. area_state n 0)
plan (open_ring mark) st size =
    writing (at_stage Area st size) fine (leb (st.rings + 1) unlimited)
    st.position (ring.bytes (record { mark = mark; vertices = []; kept = [] })) []
    (λ n. ring_state n (st.rings + 1) st.position 0)
plan (add_vertex x y z) st size =
    writing (at_stage Ring st size) fine (leb (st.vertices + 1) unlimited)
    st.position (vertex.bytes (x ∷ y ∷ z ∷ [])) []
    (λ n. ring_state n st.rings st.ring_at (st.vertices + 1))
plan (close_ring kept) st size =
    writing (at_stage Ring st size) (test (leb fewest_vertices st.vertices) Geography st.position) true
    st.position kept (record { at = st.ring_at + 1; width = 4; number = st.vertices } ∷ [])
    (λ n. area_state n st.rings)
plan (finish_area kept) st size =
    writing (at_stage Area st size) (test (leb 1 st.rings) Geography st.position) true
    st.position kept (record { at = 2; width = 1; number = holes_of st.rings } ∷ record { at = 3; width = 4; number = st.rings } ∷ [])
    closed

unfoldable pub step : Step → State → List ℕ → Out State
step s st b = carry (plan s st (length b)) st b

-- steps one after the other, each on what the last one left; the first refusal ends them
unfoldable pub run : List Step → State → List ℕ → Out State
run [] st b = record { answer = ok st.position; state = st; buffer = b }
run (s ∷ ss) st b = after (step s st b) (run ss)
