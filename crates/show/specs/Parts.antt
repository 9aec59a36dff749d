-- A part of a message, as a slice of it.
use Rattle.std.specs.Prelude.{ℕ, ◌+◌, min, ◌≡◌, List, length, take, drop}
use Rattle.std.specs.Borrow.{Bor}

-- so many bytes of a message from a place on, or as many of them as there are: the slice points there, into the message itself, and has those bytes
pub record IsPart (m : Bor (List ℕ)) (start size : ℕ) (part : Bor (List ℕ)) : Type 0 where
  pub place : part.ref_ptr ≡ (m.ref_ptr.0, min start (length m.now) + m.ref_ptr.1)
  pub bytes : part.now ≡ take size (drop start m.now)
