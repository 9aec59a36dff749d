-- Calls of the C interface's writer of areas: as outline/specs/Calls, with the state in numbers and each answer one number. Each call is on the numbers and the buffer that
-- the last one left.
use Rattle.std.specs.Prelude.{ℕ, ◌*◌, ◌^◌, ◌<◌, ◌≡◌, List, [], ◌∷◌}
use Rattle.numbers.specs.Calls.{Accepted}
use Rattle.outline.specs.State.{closed}
use Rattle.outline.specs.Steps.{Step, begin_area}
use Rattle.outline.specs.Spells.{Held}
use Rattle.areaexports.specs.Stored.{WroteFrom, Wrote}

-- what a call leaves: its answer, the state in numbers, and the buffer
pub record Left : Type 0 where
  pub answer : ℕ
  pub numbers : List ℕ
  pub buffer : List ℕ

abbrev pub Chain : List Step → Left → Type 0
Chain [] l = Unit
Chain (s ∷ ss) l = Held s × (next : Left) × Wrote s l.numbers l.buffer next.answer next.numbers next.buffer × Chain ss next

-- each was accepted, and the last answered n, above the low 8 bits, and left the buffer b'
abbrev pub ChainTo : (ss : List Step) (l : Left) → Chain ss l → ℕ → List ℕ → Type 0
ChainTo [] l c n b' = (l.answer ≡ n * 2 ^ 8) × (l.buffer ≡ b')
ChainTo (s ∷ ss) l c n b' = Accepted l.answer × ChainTo ss c.1 c.3 n b'

-- the calls of a begin and of the steps behind it on a buffer b, with memory for the state, whatever numbers ns stand there
abbrev pub Calls : ℕ → ℕ → List Step → List ℕ → List ℕ → Type 0
Calls edition internal ss ns b =
    (edition < 256) × (internal < 256) × (l : Left) × WroteFrom (begin_area edition internal) (closed 0) ns b l.answer l.numbers l.buffer × Chain ss l

abbrev pub CallsTo : (edition internal : ℕ) (ss : List Step) (ns b : List ℕ) → Calls edition internal ss ns b → ℕ → List ℕ → Type 0
CallsTo edition internal ss ns b c n b' = ChainTo ss c.2 c.4 n b'
