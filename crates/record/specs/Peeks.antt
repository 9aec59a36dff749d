-- What the code takes out of a message that is accepted, field by field. proofs/Records.antt proves that it is the record; only helpers' contracts cite this.
-- A field that can't be read, which no accepted message has, gives nothing, and the next one its place.
use Rattle.std.specs.Prelude as std
use Rattle.std.specs.Prelude.{Some, None, ℤ, ℕ, Bool, false, List, replicate, eqb}
use Rattle.std.proofs.Math.Option.{Option, none}
use Rattle.format.specs.Number.{num_bytes}
use Rattle.format.specs.Result.{Res, ok, no, pick}
use Rattle.format.specs.Format.{number, block, present}
use Rattle.format.specs.Value.{string, anything}
use Rattle.scan.specs.Signed.{signed}
use Rattle.record.specs.declared.Span.{Span}
use Rattle.record.specs.declared.Field.{Field}
use Rattle.record.specs.declared.Noted.{Noted}
use Rattle.record.specs.declared.LoginRequestRecord.{LoginRequestRecord}
use Rattle.record.specs.declared.LoginResponseRecord.{LoginResponseRecord}
use Rattle.record.specs.declared.InvocationRecord.{InvocationRecord}
use Rattle.record.specs.Spans.{span_of, note_of}
use Rattle.record.specs.Records.{login_response_of}

abbrev pub num_in : ℕ → Res (ℕ × ℕ) → Field ℕ
num_in at (ok p) = record { value = p.0; next = p.1 }
num_in at (no f p) = record { value = 0; next = at }

abbrev pub spot_in : ℕ → Res (Option (List ℕ) × ℕ) → Field Span
spot_in at (ok p) = record { value = span_of at p.0; next = p.1 }
spot_in at (no f p) = record { value = Span.Absent; next = at }

abbrev pub note_in : ℕ → Res (Option (Option (List ℕ)) × ℕ) → Field Span
note_in at (ok p) = record { value = note_of at p.0; next = p.1 }
note_in at (no f p) = record { value = Span.Absent; next = at }

abbrev pub block_in : ℕ → Res (List ℕ × ℕ) → Field (List ℕ)
block_in at (ok p) = record { value = p.0; next = p.1 }
block_in at (no f p) = record { value = replicate 8 0; next = at }

-- how many bytes a hash has
abbrev pub hash_size : ℕ → ℕ
hash_size h = pick (eqb h 1) 32 20

module _ (s : List ℕ) where
  unfoldable pub number_at : ℕ → ℕ → Field ℕ
  number_at at k = num_in at ((number k 0).read s at)

  unfoldable pub text_at : ℕ → Bool → Field Span
  text_at at nullable = spot_in at ((string nullable anything 0 0).read s at)

  unfoldable pub note_at : ℕ → Bool → Bool → Field Span
  note_at at there nullable = note_in at ((present there none (string nullable anything 0 0)).read s at)

  unfoldable pub block_at : ℕ → Field (List ℕ)
  block_at at = block_in at ((block 8 0).read s at)

  -- a number, and a string after it that is there or not
  abbrev pub noted_at : ℕ → ℕ → Bool → Bool → Noted
  noted_at at k there nullable = record {
    number = (number_at at k).value;
    span = (note_at (number_at at k).next there nullable).value;
    next = (note_at (number_at at k).next there nullable).next;
  }

  -- kind 1: service, user and hash from a place on
  abbrev pub login_at : ℕ → ℕ → std.Option ℤ → ℕ → LoginRequestRecord
  login_at at version edition size = record {
    version = signed 1 version;
    hash_version = edition;
    service = (text_at at false).value;
    user = (text_at (text_at at false).next false).value;
    hash = Span.At (text_at (text_at at false).next false).next size;
  }

  abbrev pub login_request_at : LoginRequestRecord
  login_request_at =
      pick (eqb (number_at 4 1).value 1)
      (login_at 6 (number_at 4 1).value (Some (signed 1 (number_at 5 1).value)) (hash_size (number_at 5 1).value))
      (login_at 5 (number_at 4 1).value None 20)

  -- kind 2: what follows a result of 0
  abbrev pub server_at : ℕ → ℕ → LoginResponseRecord
  server_at version result = record {
    version = signed 1 version;
    result = signed 1 result;
    host = signed 4 (number_at 6 4).value;
    connection = signed 8 (number_at 10 8).value;
    start = signed 8 (number_at 18 8).value;
    leader = num_bytes 4 (number_at 26 4).value;
    build = (text_at 30 false).value;
  }

  abbrev pub login_response_at : LoginResponseRecord
  login_response_at = pick (eqb (number_at 5 1).value 0) (server_at (number_at 4 1).value (number_at 5 1).value) (login_response_of (number_at 4 1).value (number_at 5 1).value none)

  -- kind 3
  abbrev pub invocation_at : InvocationRecord
  invocation_at = record {
    version = signed 1 (number_at 4 1).value;
    procedure = (text_at 5 false).value;
    client = (block_at (text_at 5 false).next).value;
    params = (number_at (block_at (text_at 5 false).next).next 2).value;
    params_at = (number_at (block_at (text_at 5 false).next).next 2).next;
  }
