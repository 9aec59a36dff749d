-- What is written into a buffer.
use Rattle.std.specs.Prelude as std
use Rattle.std.specs.Prelude.{ℕ, ◌+◌, Bool, List, ◌++◌, length, take, drop, Some, None}
use Rattle.std.specs.Borrow.{Bor}
use Rattle.std.proofs.Math.Option.{Option, some, none}
use Rattle.format.specs.Result.{pick}
use Rattle.format.specs.Number.{num_bytes, null4}

-- the bytes bs, put at a place of a buffer
unfoldable pub put : List ℕ → ℕ → List ℕ → List ℕ
put b at bs = take at b ++ (bs ++ drop (at + length bs) b)

-- what the code gives: null, or the bytes
abbrev pub given : std.Option (Bor (List ℕ)) → Option (List ℕ)
given None = none
given (Some s) = some s.now

-- what a caller in C gives as a flag and bytes: null, or the bytes
abbrev pub optional : Bool → List ℕ → Option (List ℕ)
optional null bs = pick null none (some bs)

-- a length and its bytes, -1 for null
abbrev pub sized : Option (List ℕ) → List ℕ
sized none = num_bytes 4 null4
sized (some bs) = num_bytes 4 (length bs) ++ bs
