-- What C gives one by one, put together.
use Rattle.std.specs.Prelude.{ℕ, Bool, List}
use Rattle.put.specs.Put.{optional}
use Rattle.steps.specs.Arguments.{Opening}
use Rattle.write.specs.Shown.{seen}
use Rattle.whole.specs.Rows.{whole_row}
use Rattle.numbers.specs.Stored.{state_of, Gave}

-- the fields of a response before its table count
abbrev pub opening : List ℕ → ℕ → ℕ → Bool → List ℕ → ℕ → Bool → List ℕ → ℕ → List ℕ → Opening
opening client flags status status_null status_string app_status app_null app_string round_trip exception = record {
  client = client;
  flags = flags;
  status = status;
  status_string = optional status_null status_string;
  app_status = app_status;
  app_string = optional app_null app_string;
  round_trip = round_trip;
  exception = exception;
}

-- a whole row, from the state that the numbers say
abbrev pub RowGave : List ℕ → List ℕ → List ℕ → List ℕ → List ℕ → ℕ → List ℕ → List ℕ → Type 0
RowGave bytes cells ns types b r ns' b' = Gave (whole_row bytes cells (seen (state_of ns) types) b) ns r ns' b'
