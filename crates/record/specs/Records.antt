-- What each kind of message is shown as, by its record alone: numbers with their signs, blocks as they are, strings by their places.
-- A message's version stands at 4, and what follows it at 5.
use Rattle.std.specs.Prelude as std
use Rattle.std.specs.Prelude.{ℕ, ℤ, ◌+◌, length, replicate, Some, None}
use Rattle.std.proofs.Math.Option.{Option, some, none, get_or}
use Rattle.format.specs.Number.{num_bytes}
use Rattle.format.specs.Result.{Res, ok, bind}
use Rattle.format.specs.Message as wire
use Rattle.format.specs.Message.{Message, Server}
use Rattle.scan.specs.Signed.{signed}
use Rattle.places.specs.Places.{after_text, after_note, after_number}
use Rattle.record.specs.declared.Span.{Span}
use Rattle.record.specs.declared.LoginRequestRecord.{LoginRequestRecord}
use Rattle.record.specs.declared.LoginResponseRecord.{LoginResponseRecord}
use Rattle.record.specs.declared.InvocationRecord.{InvocationRecord}
use Rattle.record.specs.declared.ResponseRecord.{ResponseRecord}
use Rattle.record.specs.Spans.{span_of, note_of}

module _ {A : Type 0} where
  -- the record of a message that is accepted, or why it is not
  abbrev pub record_in : (Message → A) → Res Message → Res A
  record_in show read = bind read (λ r. ok (show r))

-- kind 1
abbrev pub edition_of : Option ℕ → std.Option ℤ
edition_of none = None
edition_of (some n) = Some (signed 1 n)

abbrev pub login_request_of : ℕ → wire.LoginRequest → LoginRequestRecord
login_request_of version l =
    let service = after_number 1 5 l.hash_version in
    let user = after_text service l.service in
    record {
      version = signed 1 version;
      hash_version = edition_of l.hash_version;
      service = span_of service l.service;
      user = span_of user l.user;
      hash = Span.At (after_text user l.user) (length l.hash);
    }

abbrev pub shown_login_request : Res Message → Res LoginRequestRecord
shown_login_request = record_in (λ r. login_request_of r.version (wire.the_login_request r.content))

-- kind 2: what only follows a result of 0 is 0 or absent else
abbrev pub login_response_of : ℕ → ℕ → Option Server → LoginResponseRecord
login_response_of version result none = record {
  version = signed 1 version;
  result = signed 1 result;
  host = signed 4 0;
  connection = signed 8 0;
  start = signed 8 0;
  leader = replicate 4 0;
  build = Span.Absent;
}
login_response_of version result (some v) = record {
  version = signed 1 version;
  result = signed 1 result;
  host = signed 4 v.host;
  connection = signed 8 v.connection;
  start = signed 8 v.start;
  leader = num_bytes 4 v.leader;
  build = span_of 30 v.build;
}

abbrev pub shown_login_response : Res Message → Res LoginResponseRecord
shown_login_response = record_in (λ r. login_response_of r.version (wire.the_login_response r.content).result (wire.the_login_response r.content).server)

-- kind 3, with the number of its parameters and where they begin
abbrev pub invocation_of : ℕ → wire.Invocation → InvocationRecord
invocation_of version l =
    let client = after_text 5 l.procedure in
    record {
      version = signed 1 version;
      procedure = span_of 5 l.procedure;
      client = l.client;
      params = length l.params;
      params_at = client + 10;
    }

abbrev pub shown_invocation : Res Message → Res InvocationRecord
shown_invocation = record_in (λ r. invocation_of r.version (wire.the_invocation r.content))

-- kind 4, with the number of its tables and where they begin; a round trip that isn't there is shown as 0
abbrev pub response_of : ℕ → wire.Response → ResponseRecord
response_of version l =
    let h = l.head in
    let app_status = after_note 15 h.status_string in
    let round_trip = after_note (app_status + 1) h.app_string in
    let exception = after_number 4 round_trip h.round_trip in
    let tables = after_note exception h.exception in
    record {
      version = signed 1 version;
      client = h.client;
      flags = h.flags;
      status = signed 1 h.status;
      status_string = note_of 15 h.status_string;
      app_status = signed 1 h.app_status;
      app_string = note_of (app_status + 1) h.app_string;
      round_trip = signed 4 (get_or h.round_trip 0);
      exception = note_of exception h.exception;
      tables = length l.tables;
      tables_at = tables + 2;
    }

abbrev pub shown_response : Res Message → Res ResponseRecord
shown_response = record_in (λ r. response_of r.version (wire.the_response r.content))
