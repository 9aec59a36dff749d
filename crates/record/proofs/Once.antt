-- A contract decides its answer: two answers that meet it are one.
use mathlib.Core.Path.{◌≡◌, sym, ◌∙◌}
use Rattle.std.specs.Prelude.{Result}
use Rattle.format.specs.declared.Refusal.{Refusal}
use Rattle.format.specs.Result.{Res, told}
use Rattle.format.specs.Message.{Message}
use Rattle.format.proofs.Decides.{answer_once}
use Rattle.record.specs.declared.LoginRequestRecord.{LoginRequestRecord}
use Rattle.record.specs.declared.LoginResponseRecord.{LoginResponseRecord}
use Rattle.record.specs.declared.InvocationRecord.{InvocationRecord}
use Rattle.record.specs.declared.ResponseRecord.{ResponseRecord}
use Rattle.record.specs.Records.{shown_login_request, shown_login_response, shown_invocation, shown_response}

-- what a contract says of an answer, for a reading w
module _ {A : Type 0} (show : Res Message → Res A) (w : Res Message) where
  abbrev pub Meets : Result A Refusal → Type 0
  Meets a = told a ≡ show w

  both_once : (a b : Result A Refusal) → Meets a → Meets b → a ≡ b
  both_once a b p q = answer_once a b (p ∙ sym q)

pub login_request_once : (w : Res Message) (a b : Result LoginRequestRecord Refusal) → Meets shown_login_request w a → Meets shown_login_request w b → a ≡ b
login_request_once = both_once shown_login_request

pub login_response_once : (w : Res Message) (a b : Result LoginResponseRecord Refusal) → Meets shown_login_response w a → Meets shown_login_response w b → a ≡ b
login_response_once = both_once shown_login_response

pub invocation_once : (w : Res Message) (a b : Result InvocationRecord Refusal) → Meets shown_invocation w a → Meets shown_invocation w b → a ≡ b
invocation_once = both_once shown_invocation

pub response_once : (w : Res Message) (a b : Result ResponseRecord Refusal) → Meets shown_response w a → Meets shown_response w b → a ≡ b
response_once = both_once shown_response
