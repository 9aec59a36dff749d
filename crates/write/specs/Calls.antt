-- Calls of the writer's functions: a login's call, or that of a begin and those of the steps behind it, each on the state, the types and the buffer that the
-- last one left. Nothing here says that a call is accepted, and of its arguments no more is said than their types say.
use Rattle.std.specs.Prelude.{ℕ, ◌≡◌, List, [], ◌∷◌, ◌++◌, length, take, Result, Ok}
use Rattle.format.specs.declared.Refusal.{Refusal}
use Rattle.format.specs.Result.{ok}
use Rattle.format.specs.Message.{Message, read_message, message_bytes, GoodMessage}
use Rattle.steps.specs.Steps.{Step, begin_call, null_param, one_param, bytes_param, open_array, element, close_array, finish_call, begin_reply, open_table, open_row, cell, close_row, close_table, finish_reply}
use Rattle.steps.specs.Logins.{login_request, login_response}
use Rattle.steps.specs.Spells.{Held}
use Rattle.steps.specs.Writings.{Writing, request_call, response_call, call_steps, reply_steps, kind_of, HeldWriting, writing_of, trimmed, overlaid}
use Rattle.write.specs.declared.State.{State as Code}
use Rattle.write.specs.declared.Outcome.{Outcome}
use Rattle.write.specs.Shown.{zero, Stepped, Opened, Told}

-- what a call leaves: its outcome, the memory for a table's types, and the buffer
pub record Left : Type 0 where
  pub came : Outcome
  pub types : List ℕ
  pub buffer : List ℕ

-- what a function is lent of that memory: nothing, the types to look at, or all of it to set
pub data Loan : Type 0 where
  nothing : Loan
  look : Loan
  whole : Loan

abbrev pub loan : Step → Loan
loan (begin_call version procedure client) = nothing
loan null_param = nothing
loan (one_param t v) = nothing
loan (bytes_param bs) = nothing
loan (open_array t) = nothing
loan (element t v) = nothing
loan close_array = nothing
loan finish_call = nothing
loan (begin_reply version o) = nothing
loan (open_table status cs) = whole
loan open_row = look
loan (cell t v) = look
loan close_row = look
loan close_table = look
loan finish_reply = nothing

-- a function's contract, by what it is lent, of what its call in a state, with types and on a buffer, leaves
abbrev pub Meets : Loan → Step → Code → List ℕ → List ℕ → Left → Type 0
Meets nothing s st types b l = Stepped s st [] b l.came l.buffer × (l.types ≡ types)
Meets look s st types b l = Stepped s st types b l.came l.buffer × (l.types ≡ types)
Meets whole s st types b l = Opened s st types b l.came l.types l.buffer

abbrev pub Called : Step → Code → List ℕ → List ℕ → Left → Type 0
Called s = Meets (loan s) s

-- calls of steps, each on what the last one left. `Held` is no premise: it says what the types of a step's arguments say, and that it takes a state, as no begin does
abbrev pub Chain : List Step → Left → Type 0
Chain [] l = Unit
Chain (s ∷ ss) l = Held s × (next : Left) × Called s l.came.state l.types l.buffer next × Chain ss next

abbrev pub Accepted : Result ℕ Refusal → Type 0
Accepted a = (n : ℕ) × (a ≡ Ok n)

-- from a call that left l on each was accepted, and the last answered n and left the buffer b'
abbrev pub ChainTo : (ss : List Step) (l : Left) → Chain ss l → ℕ → List ℕ → Type 0
ChainTo [] l c n b' = (l.came.answer ≡ Ok n) × (l.buffer ≡ b')
ChainTo (s ∷ ss) l c n b' = Accepted l.came.answer × ChainTo ss c.1 c.3 n b'

-- the calls of a writing on a buffer b, with memory for a table's types; a login takes none. What is held of a begin's arguments is what is held of a writing without
-- steps behind it
abbrev pub Calls : Writing → List ℕ → List ℕ → Type 0
Calls (request_call version hash_version service user hash) types b =
    HeldWriting (request_call version hash_version service user hash) × (a : Result ℕ Refusal) × (b' : List ℕ) × Told (login_request version hash_version service user hash b) a b'
Calls (response_call version result w) types b = HeldWriting (response_call version result w) × (a : Result ℕ Refusal) × (b' : List ℕ) × Told (login_response version result w b) a b'
Calls (call_steps version procedure client ss) types b =
    HeldWriting (call_steps version procedure client []) × (l : Left) × Called (begin_call version procedure client) zero types b l × Chain ss l
Calls (reply_steps version o ss) types b = HeldWriting (reply_steps version o []) × (l : Left) × Called (begin_reply version o) zero types b l × Chain ss l

-- each of them was accepted, and the last answered n and left the buffer b'
abbrev pub CallsTo : (w : Writing) (types b : List ℕ) → Calls w types b → ℕ → List ℕ → Type 0
CallsTo (request_call version hash_version service user hash) types b c n b' = (c.1 ≡ Ok n) × (c.2 ≡ b')
CallsTo (response_call version result w) types b c n b' = (c.1 ≡ Ok n) × (c.2 ≡ b')
CallsTo (call_steps version procedure client ss) types b c n b' = ChainTo ss c.1 c.3 n b'
CallsTo (reply_steps version o ss) types b c n b' = ChainTo ss c.1 c.3 n b'

-- the last of a writing's steps finishes it; a login is whole
abbrev pub Finished : Writing → Type 0
Finished (request_call version hash_version service user hash) = Unit
Finished (response_call version result w) = Unit
Finished (call_steps version procedure client ss) = (before : List Step) × (ss ≡ before ++ (finish_call ∷ []))
Finished (reply_steps version o ss) = (before : List Step) × (ss ≡ before ++ (finish_reply ∷ []))

-- what was written: a good message, which the writing spells, stands in front of the buffer b, with every byte behind it as it was; n is its length, and it is read
pub record Wrote (w : Writing) (b : List ℕ) (n : ℕ) (b' : List ℕ) : Type 0 where
  pub message : Message
  pub good : GoodMessage (kind_of w) message
  pub spelled : trimmed w ≡ writing_of message
  pub size : n ≡ length (message_bytes (kind_of w) message)
  pub buffer : b' ≡ overlaid b (message_bytes (kind_of w) message)
  pub read : read_message (kind_of w) (take n b') ≡ ok message
