-- Worked cases, by computation: whole areas, each refusal, and forged states.
use Rattle.std.specs.Prelude.{ℕ, ◌≡◌, refl, List, [], ◌∷◌, ◌++◌, map, replicate}
use Rattle.format.specs.declared.Fault.TheVariants.{Limit, Geography, Output, Stage as WrongStage}
use Rattle.format.specs.Result.{Res, ok, no}
use Rattle.format.specs.Number.{num_bytes}
use Rattle.format.specs.Format.{number, block, nothing, ruled, into, both, each}
use Rattle.format.specs.Geography.{vertex, ring, polygon}
use Rattle.put.specs.Put.{put}
use Rattle.steps.specs.Plans.{carry}
use Rattle.outline.specs.declared.State.{State}
use Rattle.outline.specs.State.{closed, area_state, ring_state, sound}
use Rattle.outline.specs.Steps.{Step, begin_area, open_ring, add_vertex, close_ring, finish_area, step, run}

-- steps on a buffer of so many bytes 9, and what they come to: the answer, and the buffer
pub record Case : Type 0 where
  pub steps : List Step
  pub size : ℕ
  pub answer : Res ℕ
  pub buffer : List ℕ

pub record Came : Type 0 where
  pub answer : Res ℕ
  pub buffer : List ℕ

abbrev pub came : Case → Came
came c = let o = run c.steps (closed 0) (replicate c.size 9) in record { answer = o.answer; buffer = o.buffer }

abbrev pub Right : List Case → Type 0
Right cs = map came cs ≡ map (λ c. record { answer = c.answer; buffer = c.buffer }) cs

abbrev case : List Step → ℕ → Res ℕ → List ℕ → Case
case ss n a b = record { steps = ss; size = n; answer = a; buffer = b }

abbrev begins : Step
begins = begin_area 1 2

-- what begins leaves: 7 bytes
abbrev begun : List ℕ
begun = 1 ∷ 2 ∷ 0 ∷ 0 ∷ 0 ∷ 0 ∷ 0 ∷ []

-- a vertex, and its 24 bytes
abbrev point : Step
point = add_vertex 5 6 513

abbrev point_bytes : List ℕ
point_bytes = 0 ∷ 0 ∷ 0 ∷ 0 ∷ 0 ∷ 0 ∷ 0 ∷ 5 ∷ 0 ∷ 0 ∷ 0 ∷ 0 ∷ 0 ∷ 0 ∷ 0 ∷ 6 ∷ 0 ∷ 0 ∷ 0 ∷ 0 ∷ 0 ∷ 0 ∷ 2 ∷ 1 ∷ []

-- a ring of three vertices, and its 115 bytes
abbrev closes : Step
closes = close_ring (replicate 38 3)

abbrev a_ring : List Step
a_ring = open_ring 7 ∷ point ∷ point ∷ point ∷ closes ∷ []

abbrev ring_bytes : List ℕ
ring_bytes = 7 ∷ 0 ∷ 0 ∷ 0 ∷ 3 ∷ (point_bytes ++ (point_bytes ++ (point_bytes ++ replicate 38 3)))

abbrev ends : Step
ends = finish_area (replicate 33 4)

unfoldable pub cases : List Case
cases =
    -- an area of one ring, and one of two, the second ring with four vertices
    case (begins ∷ (a_ring ++ (ends ∷ []))) 157 (ok 155) (1 ∷ 2 ∷ 0 ∷ 0 ∷ 0 ∷ 0 ∷ 1 ∷ (ring_bytes ++ (replicate 33 4 ++ (9 ∷ 9 ∷ []))))
    ∷ case (begins ∷ (a_ring ++ (open_ring 8 ∷ point ∷ point ∷ point ∷ point ∷ closes ∷ ends ∷ []))) 294 (ok 294)
    (1 ∷ 2 ∷ 1 ∷ 0 ∷ 0 ∷ 0 ∷ 2 ∷ (ring_bytes ++ (8 ∷ 0 ∷ 0 ∷ 0 ∷ 4 ∷ (point_bytes ++ (point_bytes ++ (point_bytes ++ (point_bytes ++ (replicate 38 3 ++ replicate 33 4))))))))
    -- 13: a ring before any begin; a vertex between rings; a ring in a ring; a finish in one; a step after the finish
    ∷ case (open_ring 7 ∷ []) 2 (no WrongStage 0) (9 ∷ 9 ∷ [])
    ∷ case (begins ∷ point ∷ []) 31 (no WrongStage 7) (begun ++ replicate 24 9)
    ∷ case (begins ∷ open_ring 7 ∷ open_ring 7 ∷ []) 17 (no WrongStage 12) (begun ++ (7 ∷ 0 ∷ 0 ∷ 0 ∷ 0 ∷ replicate 5 9))
    ∷ case (begins ∷ open_ring 7 ∷ ends ∷ []) 45 (no WrongStage 12) (begun ++ (7 ∷ 0 ∷ 0 ∷ 0 ∷ 0 ∷ replicate 33 9))
    ∷ case (begins ∷ (a_ring ++ (ends ∷ ends ∷ []))) 188 (no WrongStage 155) (1 ∷ 2 ∷ 0 ∷ 0 ∷ 0 ∷ 0 ∷ 1 ∷ (ring_bytes ++ (replicate 33 4 ++ replicate 33 9)))
    -- 7 at the position: a ring of two vertices; an area without a ring. Before 8
    ∷ case (begins ∷ open_ring 7 ∷ point ∷ point ∷ closes ∷ []) 60 (no Geography 60) (begun ++ (7 ∷ 0 ∷ 0 ∷ 0 ∷ 0 ∷ (point_bytes ++ point_bytes)))
    ∷ case (begins ∷ ends ∷ []) 40 (no Geography 7) (begun ++ replicate 33 9)
    -- 8, at the position that the step would reach, and nothing is written
    ∷ case (begins ∷ []) 6 (no Output 7) (replicate 6 9)
    ∷ case (begins ∷ open_ring 7 ∷ []) 11 (no Output 12) (begun ++ replicate 4 9)
    ∷ case (begins ∷ open_ring 7 ∷ point ∷ []) 35 (no Output 36) (begun ++ (7 ∷ 0 ∷ 0 ∷ 0 ∷ 0 ∷ replicate 23 9))
    ∷ case (begins ∷ (a_ring ++ (ends ∷ []))) 154 (no Output 155) (begun ++ (ring_bytes ++ replicate 32 9))
    ∷ []

-- states that no step left: what one step answers in a buffer of so many bytes
pub record Forged : Type 0 where
  pub step : Step
  pub state : State
  pub size : ℕ
  pub answer : Res ℕ

abbrev pub Answers : List Forged → Type 0
Answers fs = map (λ f. (step f.step f.state (replicate f.size 9)).answer) fs ≡ map (λ f. f.answer) fs

abbrev forge : Step → State → ℕ → Res ℕ → Forged
forge s st n a = record { step = s; state = st; size = n; answer = a }

unfoldable pub forgeries : List Forged
forgeries =
    -- between rings: sound, in the area's head, past the buffer, too many rings; one more than the most is 3, before 8; finishing with the most is fine
    forge (open_ring 7) (area_state 7 0) 12 (ok 12)
    ∷ forge (open_ring 7) (area_state 6 0) 12 (no WrongStage 6)
    ∷ forge (open_ring 7) (area_state 13 0) 12 (no WrongStage 13)
    ∷ forge (open_ring 7) (area_state 7 2147483648) 12 (no WrongStage 7)
    ∷ forge (open_ring 7) (area_state 7 2147483647) 7 (no Limit 7)
    ∷ forge ends (area_state 7 2147483647) 40 (ok 40)
    -- in a ring: sound, its byte in the area's head, its count behind the position, past the buffer, too many rings, too many vertices, the most vertices
    ∷ forge point (ring_state 12 1 7 0) 36 (ok 36)
    ∷ forge point (ring_state 12 1 6 0) 36 (no WrongStage 12)
    ∷ forge point (ring_state 12 1 8 0) 36 (no WrongStage 12)
    ∷ forge point (ring_state 37 1 7 0) 36 (no WrongStage 37)
    ∷ forge point (ring_state 12 2147483648 7 0) 36 (no WrongStage 12)
    ∷ forge point (ring_state 12 1 7 2147483648) 36 (no WrongStage 12)
    ∷ forge point (ring_state 12 1 7 2147483647) 12 (no Limit 12)
    ∷ forge closes (ring_state 12 1 7 2147483647) 50 (ok 50)
    ∷ []

pub cases_right : Right cases
unfolding cases put num_bytes number block nothing ruled into both each vertex ring polygon sound carry step run
cases_right = refl

pub forgeries_right : Answers forgeries
unfolding forgeries put num_bytes number block nothing ruled into both each vertex ring polygon sound carry step
forgeries_right = refl
