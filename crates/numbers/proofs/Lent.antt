-- What is put into a lent list: an answer, and a record where its message is accepted.
use Prim.Native.Nat.{ℕ}
use native.Mathlib.Omega.{arith}
use mathlib.Core.Path.{◌≡◌, refl, ◌∙◌, ap}
use mathlib.Core.List.{List}
use Rattle.std.specs.Int.{w32, w64, from_be_bytes}
use Rattle.format.specs.Result.{Res}
use Rattle.format.specs.Number.{num_at}
use Rattle.record.specs.declared.Span.{Span}
use Rattle.numbers.specs.Packed.{packed, nothing}
use Rattle.numbers.specs.Listed.{lent}
use Rattle.numbers.specs.Records.{there}

-- an answer that says what was asked is packed and lent as that
pub lent_answer : {A : Type 0} (told : A → List ℕ) (before : List ℕ) {x asked : Res A} {r : ℕ} {after : List ℕ} → x ≡ asked
    → (r ≡ packed nothing x) × (after ≡ lent told x before) → (r ≡ packed nothing asked) × (after ≡ lent told asked before)
lent_answer {A} told before says lends = (lends.0 ∙ ap (packed nothing) says, lends.1 ∙ ap (λ (z : Res A). lent told z before) says)

-- the number that bytes are, the highest first
pub four_bytes : (l : List ℕ) → from_be_bytes w32 l ≡ num_at 4 l 0
unfolding num_at
four_bytes l = omega arith

pub eight_bytes : (l : List ℕ) → from_be_bytes w64 l ≡ num_at 8 l 0
unfolding num_at
eight_bytes l = omega arith

-- a string that is null or absent
pub not_there : (s : Span) → ((start size : ℕ) → s ≡ Span.At start size → ⊥) → 0 ≡ there s
not_there (Span.At start size) other = absurd (other start size refl)
not_there Span.Null other = refl
not_there Span.Absent other = refl
