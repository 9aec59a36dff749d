-- What the contracts of the logins and of their parts cite.
use Rattle.std.specs.Prelude.{ℕ, List, eqb}
use Rattle.std.proofs.Math.Option.{some, none}
use Rattle.format.specs.Result.{pick}
use Rattle.format.specs.Format.{present}
use Rattle.format.specs.Message.{edition, Server}
use Rattle.steps.specs.Logins.{Welcome}

abbrev pub welcome : ℕ → ℕ → ℕ → ℕ → List ℕ → Welcome
welcome host connection start leader build = record { host = host; connection = connection; start = start; leader = leader; build = build }

abbrev pub server_of : Welcome → Server
server_of w = record { host = w.host; connection = w.connection; start = w.start; leader = w.leader; build = some w.build }

-- the hash version's bytes: version 0 has none
abbrev pub hash_part : ℕ → ℕ → List ℕ
hash_part version hashing = (present (eqb version 1) 0 (edition 3)).bytes (pick (eqb version 1) (some hashing) none)
