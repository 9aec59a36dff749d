-- A whole writing: a login in one call, or an invocation or a response by steps, from its begin on. What comes of it, and which one a message spells.
use Rattle.std.specs.Prelude.{ℕ, ◌<◌, List, [], ◌∷◌, ◌++◌, length, drop, eqb}
use Rattle.std.proofs.Math.Option.{Option, get_or}
use Rattle.format.specs.Result.{ok, pick}
use Rattle.format.specs.Number.{Bytes}
use Rattle.format.specs.Message.{Server, no_server, Content, a_login_request, a_login_response, an_invocation, a_response, Message}
use Rattle.steps.specs.State.{State, closed}
use Rattle.steps.specs.Plans.{Out}
use Rattle.steps.specs.Arguments.{Opening, opened}
use Rattle.steps.specs.Steps.{Step, begin_call, begin_reply, run}
use Rattle.steps.specs.Logins.{Welcome, login_request, login_response}
use Rattle.steps.specs.Spells.{text_of, call_rest, reply_rest, opening_of, AllHeld, HeldClient, HeldOpening, HeldWelcome}

pub data Writing : Type 0 where
  request_call : ℕ → ℕ → List ℕ → List ℕ → List ℕ → Writing  -- version, hash version, service, user, hash
  response_call : ℕ → ℕ → Welcome → Writing  -- version, result, what follows a result of 0
  call_steps : ℕ → List ℕ → List ℕ → List Step → Writing  -- version, procedure, client data, the steps behind the begin
  reply_steps : ℕ → Opening → List Step → Writing  -- version, fields before the table count, the steps behind the begin

abbrev pub kind_of : Writing → ℕ
kind_of (request_call version hash_version service user hash) = 1
kind_of (response_call version result w) = 2
kind_of (call_steps version procedure client ss) = 3
kind_of (reply_steps version o ss) = 4

-- what comes of it; a login has no state
abbrev pub written : Writing → State → List ℕ → Out State
written (request_call version hash_version service user hash) st b = login_request version hash_version service user hash b
written (response_call version result w) st b = login_response version result w b
written (call_steps version procedure client ss) st b = run (begin_call version procedure client ∷ ss) st b
written (reply_steps version o ss) st b = run (begin_reply version o ∷ ss) st b

-- the buffer b with m laid over its front
abbrev pub overlaid : List ℕ → List ℕ → List ℕ
overlaid b m = m ++ drop (length m) b

-- accepted, with the message m in front of the buffer b, and every other byte as it was
abbrev pub in_front : List ℕ → List ℕ → Out State
in_front b m = record { answer = ok (length m); state = closed (length m); buffer = overlaid b m }

-- the code's types hold its arguments
abbrev pub HeldWriting : Writing → Type 0
HeldWriting (request_call version hash_version service user hash) = (version < 256) × (hash_version < 256) × Bytes service × Bytes user × Bytes hash
HeldWriting (response_call version result w) = (version < 256) × (result < 256) × HeldWelcome w
HeldWriting (call_steps version procedure client ss) = (version < 256) × Bytes procedure × HeldClient client × AllHeld ss
HeldWriting (reply_steps version o ss) = (version < 256) × HeldOpening o × AllHeld ss

-- what a login response says after a result of 0
abbrev pub welcome_of : Option Server → Welcome
welcome_of o = let s = get_or o no_server in record { host = s.host; connection = s.connection; start = s.start; leader = s.leader; build = text_of s.build }

-- the writing that a message spells
abbrev pub content_writing : ℕ → Content → Writing
content_writing version (a_login_request l) = request_call version (get_or l.hash_version 0) (text_of l.service) (text_of l.user) l.hash
content_writing version (a_login_response l) = response_call version l.result (welcome_of l.server)
content_writing version (an_invocation i) = call_steps version (text_of i.procedure) i.client (call_rest i)
content_writing version (a_response r) = reply_steps version (opening_of r) (reply_rest r)

abbrev pub writing_of : Message → Writing
writing_of r = content_writing r.version r.content

-- without the arguments that the version, the result or the flags leave out
abbrev pub no_welcome : Welcome
no_welcome = record { host = 0; connection = 0; start = 0; leader = 0; build = [] }

abbrev pub trimmed : Writing → Writing
trimmed (request_call version hash_version service user hash) = request_call version (pick (eqb version 1) hash_version 0) service user hash
trimmed (response_call version result w) = response_call version result (pick (eqb result 0) w no_welcome)
trimmed (call_steps version procedure client ss) = call_steps version procedure client ss
trimmed (reply_steps version o ss) = reply_steps version (opening_of (opened o)) ss
