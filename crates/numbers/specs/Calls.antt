-- Calls of the C interface's writer: as write/specs/Calls, with the state in numbers and each answer one number. Each call is on the numbers, the types and the buffer
-- that the last one left.
use Rattle.std.specs.Prelude.{ℕ, ◌*◌, ◌%◌, ◌^◌, ◌≡◌, List, [], ◌∷◌}
use Rattle.steps.specs.Steps.{Step, begin_call, begin_reply}
use Rattle.steps.specs.Logins.{login_request, login_response}
use Rattle.steps.specs.Spells.{Held}
use Rattle.steps.specs.Writings.{Writing, request_call, response_call, call_steps, reply_steps, HeldWriting}
use Rattle.write.specs.Shown.{zero}
use Rattle.write.specs.Calls.{Loan, nothing, look, whole, loan}
use Rattle.numbers.specs.Stored.{WroteFrom, Wrote, WroteAll, WroteLogin}

-- what a call leaves: its answer, the state in numbers, the memory for a table's types, and the buffer
pub record Left : Type 0 where
  pub answer : ℕ
  pub numbers : List ℕ
  pub types : List ℕ
  pub buffer : List ℕ

-- a function's contract, by what it is lent of the types
abbrev pub Meets : Loan → Step → List ℕ → List ℕ → List ℕ → Left → Type 0
Meets nothing s ns types b l = Wrote s ns [] b l.answer l.numbers l.buffer × (l.types ≡ types)
Meets look s ns types b l = Wrote s ns types b l.answer l.numbers l.buffer × (l.types ≡ types)
Meets whole s ns types b l = WroteAll s ns types b l.answer l.numbers l.types l.buffer

-- that of a begin, which reads no state
abbrev pub Begun : Step → List ℕ → List ℕ → List ℕ → Left → Type 0
Begun s ns types b l = WroteFrom s zero ns [] b l.answer l.numbers l.buffer × (l.types ≡ types)

abbrev pub Chain : List Step → Left → Type 0
Chain [] l = Unit
Chain (s ∷ ss) l = Held s × (next : Left) × Meets (loan s) s l.numbers l.types l.buffer next × Chain ss next

-- no refusal's number is in the low 8 bits
abbrev pub Accepted : ℕ → Type 0
Accepted r = r % 2 ^ 8 ≡ 0

-- each was accepted, and the last answered n, above those bits, and left the buffer b'
abbrev pub ChainTo : (ss : List Step) (l : Left) → Chain ss l → ℕ → List ℕ → Type 0
ChainTo [] l c n b' = (l.answer ≡ n * 2 ^ 8) × (l.buffer ≡ b')
ChainTo (s ∷ ss) l c n b' = Accepted l.answer × ChainTo ss c.1 c.3 n b'

-- the calls of a writing on a buffer b, with memory for the state and for a table's types, whatever stands there; a login takes neither
abbrev pub Calls : Writing → List ℕ → List ℕ → List ℕ → Type 0
Calls (request_call version hash_version service user hash) ns types b =
    HeldWriting (request_call version hash_version service user hash) × (r : ℕ) × (b' : List ℕ) × WroteLogin (login_request version hash_version service user hash b) r b'
Calls (response_call version result w) ns types b = HeldWriting (response_call version result w) × (r : ℕ) × (b' : List ℕ) × WroteLogin (login_response version result w b) r b'
Calls (call_steps version procedure client ss) ns types b =
    HeldWriting (call_steps version procedure client []) × (l : Left) × Begun (begin_call version procedure client) ns types b l × Chain ss l
Calls (reply_steps version o ss) ns types b = HeldWriting (reply_steps version o []) × (l : Left) × Begun (begin_reply version o) ns types b l × Chain ss l

abbrev pub CallsTo : (w : Writing) (ns types b : List ℕ) → Calls w ns types b → ℕ → List ℕ → Type 0
CallsTo (request_call version hash_version service user hash) ns types b c n b' = (c.1 ≡ n * 2 ^ 8) × (c.2 ≡ b')
CallsTo (response_call version result w) ns types b c n b' = (c.1 ≡ n * 2 ^ 8) × (c.2 ≡ b')
CallsTo (call_steps version procedure client ss) ns types b c n b' = ChainTo ss c.1 c.3 n b'
CallsTo (reply_steps version o ss) ns types b c n b' = ChainTo ss c.1 c.3 n b'
