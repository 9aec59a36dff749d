-- The login kinds, a call each, from 0 and with no state.
use Rattle.std.specs.Prelude.{ℕ, true, List, [], length, leb, eqb}
use Rattle.std.proofs.Math.Option.{some, none}
use Rattle.format.specs.declared.Fault.TheVariants.{Short, Extra, Version}
use Rattle.format.specs.Result.{pick}
use Rattle.format.specs.Format.{Verdict, fine}
use Rattle.format.specs.Text.{utf8}
use Rattle.format.specs.Message.{a_login_request, a_login_response, LoginRequest, LoginResponse, message_bytes, hash_size}
use Rattle.steps.specs.State.{State, closed}
use Rattle.steps.specs.Plans.{Plan, Out, carry, also, test}
use Rattle.steps.specs.Arguments.{text_fault}
use Rattle.steps.specs.Steps.{message_end, says}

abbrev pub login_plan : Verdict → List ℕ → Plan State
login_plan faults bs = record { permitted = true; faults = faults; limits = true; most = message_end; at = 0; bytes = bs; fills = []; next = λ n. closed n }

-- in version 0 the hash version is ignored
abbrev pub written_request : ℕ → ℕ → List ℕ → List ℕ → List ℕ → LoginRequest
written_request version hash_version service user hash =
    record { hash_version = pick (eqb version 1) (some hash_version) none; service = some service; user = some user; hash = hash }

abbrev pub hash_fault : ℕ → List ℕ → Verdict
hash_fault n hash = also (test (leb n (length hash)) Short 0) (test (leb (length hash) n) Extra 0)

unfoldable pub request_fault : ℕ → ℕ → List ℕ → List ℕ → List ℕ → Verdict
request_fault version hash_version service user hash =
    also (test (leb version 1) Version 0)
    (also (pick (eqb version 1) (test (leb hash_version 1) Version 0) fine)
    (also (text_fault utf8 0 service)
    (also (text_fault utf8 0 user)
    (hash_fault (hash_size (pick (eqb version 1) (some hash_version) none)) hash))))

unfoldable pub login_request : ℕ → ℕ → List ℕ → List ℕ → List ℕ → List ℕ → Out State
login_request version hash_version service user hash b =
    carry (login_plan (request_fault version hash_version service user hash) (message_bytes 1 (says version (a_login_request (written_request version hash_version service user hash))))) (closed 0) b

-- with a result other than 0 all that follows it is ignored
pub record Welcome : Type 0 where
  pub host : ℕ
  pub connection : ℕ
  pub start : ℕ
  pub leader : ℕ
  pub build : List ℕ

abbrev pub written_response : ℕ → Welcome → LoginResponse
written_response result w = record {
  result = result;
  server = pick (eqb result 0) (some (record { host = w.host; connection = w.connection; start = w.start; leader = w.leader; build = some w.build })) none;
}

unfoldable pub response_fault : ℕ → ℕ → Welcome → Verdict
response_fault version result w = also (test (leb version 1) Version 0) (pick (eqb result 0) (text_fault utf8 0 w.build) fine)

unfoldable pub login_response : ℕ → ℕ → Welcome → List ℕ → Out State
login_response version result w b = carry (login_plan (response_fault version result w) (message_bytes 2 (says version (a_login_response (written_response result w))))) (closed 0) b
