-- The numbers of faults as they were while 7 stood for five causes, and what it is that they were split.
use Rattle.std.specs.Prelude.{ℕ, ◌/◌, ◌%◌, ◌^◌, ◌≡◌, Bool, true, ◌&&◌, List, [], ◌∷◌, leb, eqb}
use Rattle.std.proofs.Math.Option.{Option, some, none}
use Rattle.format.specs.declared.Fault.{Fault}
use Rattle.format.specs.declared.Fault.TheVariants.{Short, Negative, Limit, Extra, Version, WireType, Decimal, Point, Flags, Name, Geography, Output, NoColumn, Stale, PastEnd, CardForm, Stage, Text}
use Rattle.format.specs.Result.{Res, ok, no, pick, number_of}

abbrev pub number_before : Fault → ℕ
number_before Short = 1
number_before Negative = 2
number_before Limit = 3
number_before Extra = 4
number_before Version = 5
number_before WireType = 6
number_before Decimal = 7
number_before Point = 7
number_before Flags = 7
number_before Name = 7
number_before Geography = 7
number_before Output = 8
number_before NoColumn = 9
number_before Stale = 10
number_before PastEnd = 11
number_before CardForm = 12
number_before Stage = 13
number_before Text = 20

-- the numbers that took the place of 7
abbrev pub is_cause : ℕ → Bool
is_cause n = leb 21 n && leb n 25

-- what a caller is told: what was found, or a number and a place
pub data Told (A : Type 0) : Type 0 where
  found : A → Told A
  refused : ℕ → ℕ → Told A

module _ {A : Type 0} where
  abbrev pub told : (Fault → ℕ) → Res A → Told A
  told numbering (ok a) = found a
  told numbering (no f p) = refused (numbering f) p

  -- what 7 became
  pub record Split (before after : Told A) : Type 0 where
    pub seven : (p : ℕ) → before ≡ refused 7 p → (n : ℕ) × (is_cause n ≡ true) × (after ≡ refused n p)  -- what gave 7 gives a cause, at the same place
    pub cause : (n p : ℕ) → is_cause n ≡ true → after ≡ refused n p → before ≡ refused 7 p  -- nothing else gives one
    pub other : ((p : ℕ) → before ≡ refused 7 p → ⊥) → after ≡ before  -- what gave anything else gives what it gave
    pub none : (p : ℕ) → after ≡ refused 7 p → ⊥  -- nothing gives 7

-- an answer of the C interface, taken apart: 0 in its low 8 bits if something was found
abbrev pub unpacked : ℕ → Told ℕ
unpacked n = pick (eqb (n % 2 ^ 8) 0) (found (n / 2 ^ 8)) (refused (n % 2 ^ 8) (n / 2 ^ 8))

-- every fault, and the first one that has a number
abbrev pub faults : List Fault
faults =
    Short ∷ Negative ∷ Limit ∷ Extra ∷ Version ∷ WireType ∷ Decimal ∷ Point ∷ Flags ∷ Name ∷ Geography
    ∷ Output ∷ NoColumn ∷ Stale ∷ PastEnd ∷ CardForm ∷ Stage ∷ Text ∷ []

abbrev pub fault_of : ℕ → List Fault → Option Fault
fault_of n [] = none
fault_of n (f ∷ fs) = pick (eqb (number_of f) n) (some f) (fault_of n fs)
