-- Calls of the functions: that of a begin and those of the steps behind it, each on the state and the buffer that the last one left. Nothing here says that a
-- call is accepted, and of its arguments no more is said than their types say.
use Rattle.std.specs.Prelude.{ℕ, ◌<◌, ◌≡◌, List, [], ◌∷◌, ◌++◌, length, take, Ok}
use Rattle.format.specs.Result.{ok}
use Rattle.format.specs.Geography.{Polygon, polygon, read_polygon}
use Rattle.steps.specs.Writings.{overlaid}
use Rattle.outline.specs.declared.Outcome.{Outcome}
use Rattle.outline.specs.State.{closed}
use Rattle.outline.specs.Steps.{Step, begin_area, finish_area}
use Rattle.outline.specs.Spells.{Held, polygon_steps}
use Rattle.outline.specs.Shown.{Stepped}

-- what a call leaves: its outcome, and the buffer
pub record Left : Type 0 where
  pub came : Outcome
  pub buffer : List ℕ

-- calls of steps, each on what the last one left. `Held` is no premise: it says what the types of a step's arguments say, and that it takes a state, as no begin does
abbrev pub Chain : List Step → Left → Type 0
Chain [] l = Unit
Chain (s ∷ ss) l = Held s × (next : Left) × Stepped s l.came.state l.buffer next.came next.buffer × Chain ss next

-- from a call that left l on each was accepted, and the last answered n and left the buffer b'
abbrev pub ChainTo : (ss : List Step) (l : Left) → Chain ss l → ℕ → List ℕ → Type 0
ChainTo [] l c n b' = (l.came.answer ≡ Ok n) × (l.buffer ≡ b')
ChainTo (s ∷ ss) l c n b' = ((m : ℕ) × (l.came.answer ≡ Ok m)) × ChainTo ss c.1 c.3 n b'

-- the calls of a begin and of the steps behind it on a buffer b
abbrev pub Calls : ℕ → ℕ → List Step → List ℕ → Type 0
Calls edition internal ss b =
    (edition < 256) × (internal < 256) × (l : Left) × Stepped (begin_area edition internal) (closed 0) b l.came l.buffer × Chain ss l

-- each of them was accepted, and the last answered n and left the buffer b'
abbrev pub CallsTo : (edition internal : ℕ) (ss : List Step) (b : List ℕ) → Calls edition internal ss b → ℕ → List ℕ → Type 0
CallsTo edition internal ss b c n b' = ChainTo ss c.2 c.4 n b'

-- the last of some steps finishes the area
abbrev pub Finished : List Step → Type 0
Finished ss = (before : List Step) × (kept : List ℕ) × (ss ≡ before ++ (finish_area kept ∷ []))

-- what was written: a good polygon, which the steps spell, stands in front of the buffer b, with every byte behind it as it was; n is its length, and it is read
pub record Wrote (ss : List Step) (b : List ℕ) (n : ℕ) (b' : List ℕ) : Type 0 where
  pub area : Polygon
  pub good : polygon.Good area
  pub spelled : ss ≡ polygon_steps area
  pub size : n ≡ length (polygon.bytes area)
  pub buffer : b' ≡ overlaid b (polygon.bytes area)
  pub read : read_polygon (take n b') ≡ ok area
