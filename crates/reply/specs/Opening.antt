-- The fields of a response before its table count, in the code's form: what is wrong with them, and the parts that they are written in.
use Rattle.std.specs.Prelude.{ℕ, ◌+◌, Bool, List, [], ◌++◌, length, leb}
use Rattle.std.proofs.Math.Option.{Option, some}
use Rattle.format.specs.declared.Fault.TheVariants.{Version}
use Rattle.format.specs.Result.{pick}
use Rattle.format.specs.Number.{num_bytes}
use Rattle.format.specs.Format.{Verdict}
use Rattle.format.specs.Message.{flagged}
use Rattle.put.specs.Put.{sized}
use Rattle.steps.specs.Plans.{also, test}
use Rattle.steps.specs.Arguments.{Opening, opening_fault}
use Rattle.reply.specs.declared.Head.{Head}

abbrev pub opening_of : Head → List ℕ → Option (List ℕ) → Option (List ℕ) → List ℕ → Opening
opening_of h client status app exception = record {
  client = client;
  flags = h.flags;
  status = h.status;
  status_string = status;
  app_status = h.app_status;
  app_string = app;
  round_trip = h.round_trip;
  exception = exception;
}

-- what is wrong with them, whatever the client data is
abbrev pub begin_fault : Head → Option (List ℕ) → Option (List ℕ) → List ℕ → Verdict
begin_fault h status app exception = also (test (leb h.version 1) Version 0) (opening_fault (opening_of h [] status app exception))

-- a string that its flag lets in: its length and its bytes
abbrev pub let_in : Bool → Option (List ℕ) → List ℕ
let_in there o = pick there (sized o) []

abbrev pub status_part : Head → Option (List ℕ) → List ℕ
status_part h o = let_in (flagged 32 h.flags) o

abbrev pub app_part : Head → Option (List ℕ) → List ℕ
app_part h o = let_in (flagged 128 h.flags) o

abbrev pub exception_part : Head → List ℕ → List ℕ
exception_part h bs = let_in (flagged 64 h.flags) (some bs)

-- how many bytes a begin writes
abbrev pub begin_size : Head → Option (List ℕ) → Option (List ℕ) → List ℕ → ℕ
begin_size h status app exception = 22 + (length (status_part h status) + (length (app_part h app) + length (exception_part h exception)))

-- up to the status, up to the app string, and up to the count; the message's length and its count hold zeros
abbrev pub front_bytes : Head → List ℕ → List ℕ
front_bytes h client = num_bytes 4 0 ++ (num_bytes 1 h.version ++ (client ++ (num_bytes 1 h.flags ++ num_bytes 1 h.status)))

abbrev pub middle_bytes : Head → Option (List ℕ) → Option (List ℕ) → List ℕ
middle_bytes h status app = status_part h status ++ (num_bytes 1 h.app_status ++ app_part h app)

abbrev pub end_bytes : Head → List ℕ → List ℕ
end_bytes h exception = num_bytes 4 h.round_trip ++ (exception_part h exception ++ num_bytes 2 0)

abbrev pub begin_bytes : Head → List ℕ → Option (List ℕ) → Option (List ℕ) → List ℕ → List ℕ
begin_bytes h client status app exception = front_bytes h client ++ (middle_bytes h status app ++ end_bytes h exception)
