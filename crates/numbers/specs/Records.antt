-- The record of each kind of message as a list of numbers, its fields in the order of the wire. A number with a sign is its two's complement of 64
-- bits, a block of bytes is the number that it is, and a string is where it starts and how many bytes it has.
use Rattle.std.specs.Prelude.{ℕ, ℤ, List, [], ◌∷◌, Option, Some, None}
use Rattle.format.specs.Number.{num_at}
use Rattle.scan.specs.Signed.{unsigned}
use Rattle.record.specs.declared.Span.{Span}
use Rattle.record.specs.declared.LoginRequestRecord.{LoginRequestRecord}
use Rattle.record.specs.declared.LoginResponseRecord.{LoginResponseRecord}
use Rattle.record.specs.declared.InvocationRecord.{InvocationRecord}
use Rattle.record.specs.declared.ResponseRecord.{ResponseRecord}

-- a string: 0 if it is absent, 1 if it is null, 2 if it is there
abbrev pub form : Span → ℕ
form Span.Absent = 0
form Span.Null = 1
form (Span.At start size) = 2

-- where it starts and its size; 0 and 0 for one that is not there
abbrev pub start_of : Span → ℕ
start_of Span.Absent = 0
start_of Span.Null = 0
start_of (Span.At start size) = start

abbrev pub size_of : Span → ℕ
size_of Span.Absent = 0
size_of Span.Null = 0
size_of (Span.At start size) = size

-- 1 if it is there, else 0
abbrev pub there : Span → ℕ
there Span.Absent = 0
there Span.Null = 0
there (Span.At start size) = 1

-- 1 if a hash version is there, else 0; and the version, or 0
abbrev pub has_edition : Option ℤ → ℕ
has_edition None = 0
has_edition (Some z) = 1

abbrev pub edition_number : Option ℤ → ℕ
edition_number None = 0
edition_number (Some z) = unsigned 8 z

-- kind 1
abbrev pub login_request_numbers : LoginRequestRecord → List ℕ
login_request_numbers r =
    unsigned 8 r.version
    ∷ has_edition r.hash_version ∷ edition_number r.hash_version
    ∷ start_of r.service ∷ size_of r.service
    ∷ start_of r.user ∷ size_of r.user
    ∷ start_of r.hash ∷ size_of r.hash ∷ []

-- kind 2
abbrev pub login_response_numbers : LoginResponseRecord → List ℕ
login_response_numbers r =
    unsigned 8 r.version ∷ unsigned 8 r.result
    ∷ unsigned 8 r.host ∷ unsigned 8 r.connection ∷ unsigned 8 r.start ∷ num_at 4 r.leader 0
    ∷ there r.build ∷ start_of r.build ∷ size_of r.build ∷ []

-- kind 3: last the number of its parameters and where the first begins
abbrev pub invocation_numbers : InvocationRecord → List ℕ
invocation_numbers r =
    unsigned 8 r.version
    ∷ start_of r.procedure ∷ size_of r.procedure
    ∷ num_at 8 r.client 0
    ∷ r.params ∷ r.params_at ∷ []

-- kind 4: last the number of its tables and where the first begins
abbrev pub response_numbers : ResponseRecord → List ℕ
response_numbers r =
    unsigned 8 r.version ∷ num_at 8 r.client 0 ∷ r.flags
    ∷ unsigned 8 r.status
    ∷ form r.status_string ∷ start_of r.status_string ∷ size_of r.status_string
    ∷ unsigned 8 r.app_status
    ∷ form r.app_string ∷ start_of r.app_string ∷ size_of r.app_string
    ∷ unsigned 8 r.round_trip
    ∷ form r.exception ∷ start_of r.exception ∷ size_of r.exception
    ∷ r.tables ∷ r.tables_at ∷ []
