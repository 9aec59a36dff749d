-- What a refusal claims of the bytes at its place: of a message, and of the body of a geography. One table each has all that such a reading gives.
use Rattle.std.specs.Prelude.{ℕ, ◌+◌, ◌≤◌, ◌≡◌, Bool, false, List, [], ◌∷◌, ◌⊎◌, length, leb, eqb}
use Rattle.format.specs.declared.Fault.{Fault}
use Rattle.format.specs.declared.Fault.TheVariants.{Short, Negative, Limit, Extra, Version, WireType, Decimal, Point, Flags, Name, Geography, Text}
use Rattle.format.specs.Result.{Res, no, pick, number_of}
use Rattle.format.specs.Number.{num_at}
use Rattle.format.specs.Value.{decimal_fine, point_fine, name_byte_fine}
use Rattle.format.specs.Message.{flags_fine}
use Rattle.format.specs.Geography.{holes_of, fewest_vertices}

pub data Claim : Type 0 where
  breaks : ℕ → (ℕ → Bool) → Claim  -- so many bytes at the place don't pass a test
  differ : ℕ → ℕ → (ℕ → ℕ → Bool) → Claim  -- so many there and so many behind them don't pass a test together
  only : ℕ → Claim → Claim  -- at one place
  either : Claim → Claim → Claim
  other : Claim  -- what is wrong isn't a value by itself
  never : Claim  -- it isn't given

abbrev pub Holds : Claim → List ℕ → ℕ → Type 0
Holds (breaks k test) s p = (p + k ≤ length s) × (test (num_at k s p) ≡ false)
Holds (differ j k test) s p = (p + j + k ≤ length s) × (test (num_at j s p) (num_at k s (p + j)) ≡ false)
Holds (only q c) s p = (p ≡ q) × Holds c s p
Holds (either c d) s p = Holds c s p ⊎ Holds d s p
Holds other s p = Unit
Holds never s p = ⊥

-- what the refusals of a list claim there
abbrev pub There : (Fault → Claim) → List ℕ → Fault → ℕ → Type 0
There claim s f p = Holds (claim f) s p

-- an answer refuses rightly, if it refuses: P says what has to hold for a fault at a place
pub record Rightly (P : Fault → ℕ → Type 0) {A : Type 0} (r : Res A) : Type 0 where
  pub holds : (f : Fault) (p : ℕ) → r ≡ no f p → P f p

-- what a table claims of a fault; one that isn't there isn't given
abbrev claim_in : List (Fault × Claim) → Fault → Claim
claim_in [] f = never
claim_in (c ∷ cs) f = pick (eqb (number_of c.0) (number_of f)) c.1 (claim_in cs f)

-- a message: a decimal or a point of 16 bytes, the flag byte, a byte of a name, the length of a geography
abbrev pub of_message : Fault → Claim
of_message = claim_in (
    (Short, other) ∷ (Negative, other) ∷ (Limit, other) ∷ (Extra, other) ∷ (Version, other) ∷ (WireType, other) ∷ (Text, other)
    ∷ (Decimal, breaks 16 decimal_fine)
    ∷ (Point, breaks 16 point_fine)
    ∷ (Flags, breaks 1 flags_fine)
    ∷ (Name, breaks 1 name_byte_fine)
    ∷ (Geography, breaks 4 (λ n. leb 1 n))
    ∷ [])

-- a body: its third byte by itself, and against the ring count behind it; no ring; too few vertices in a ring
abbrev pub of_body : Fault → Claim
of_body = claim_in (
    (Short, other) ∷ (Negative, other) ∷ (Extra, other)
    ∷ (
      Geography,
      either (only 2 (either (breaks 1 (λ h. leb h 1)) (differ 1 4 (λ h n. eqb h (holes_of n)))))
          (either (only 3 (breaks 4 (λ n. leb 1 n)))
          (breaks 4 (λ n. leb fewest_vertices n))),
    )
    ∷ [])
