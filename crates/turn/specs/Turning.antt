-- Things that stand side by side and are changed one by one, each in its place.
use Rattle.std.specs.Prelude.{ℕ, ◌+◌, ◌≡◌, length}
use mathlib.Core.List.{List, [], ◌∷◌, ◌++◌, flat_map, reverse}
use Rattle.format.specs.Geography.{Ring, ring, turned_ring}
use Rattle.places.specs.Stands.{Stands}

module _ {A : Type 0} (Fine : A → Type 0) where
  abbrev pub Each : List A → Type 0
  Each [] = Unit
  Each (a ∷ l) = Fine a × Each l

-- so many things are still to be changed, from a place on; when all are, the list is target
pub record Changing {A : Type 0} (old new : A → List ℕ) (Fine : A → Type 0) (s target : List ℕ) (at left : ℕ) : Type 0 where
  pub front : List ℕ
  pub todo : List A
  pub back : List ℕ
  pub stands : front ++ (flat_map old todo ++ back) ≡ s
  pub becomes : front ++ (flat_map new todo ++ back) ≡ target
  pub place : length front ≡ at
  pub many : length todo ≡ left
  pub fine : Each Fine todo

-- the bytes of a vertex
abbrev pub Block : List ℕ → Type 0
Block c = length c ≡ 24

abbrev pub itself : List ℕ → List ℕ
itself c = c

-- each vertex is put into its own order
abbrev pub Mended : List ℕ → ℕ → ℕ → List ℕ → Type 0
Mended s at n s' = (target : List ℕ) → Changing reverse itself Block s target at n → s' ≡ target

-- the vertices are put into reverse order
abbrev pub Reversed : List ℕ → ℕ → ℕ → List ℕ → Type 0
Reversed s at n s' =
    (front : List ℕ) (blocks : List (List ℕ)) (back : List ℕ) → front ++ (flat_map itself blocks ++ back) ≡ s → length front ≡ at → length blocks ≡ n → Each Block blocks
    → s' ≡ front ++ (flat_map itself (reverse blocks) ++ back)

-- a ring is turned, and ends where it did
abbrev pub SomeRing : List ℕ → ℕ → Type 0
SomeRing s at = (r : Ring) × Stands ring s at r

abbrev pub TurnedRing : List ℕ → ℕ → ℕ → List ℕ → Type 0
TurnedRing s at next s' = (r : Ring) (d : Stands ring s at r) → (next ≡ at + length (ring.bytes r)) × (s' ≡ d.before ++ (ring.bytes (turned_ring r) ++ d.after))

-- so many rings
abbrev pub Rings : List ℕ → List ℕ → ℕ → ℕ → Type 0
Rings = Changing ring.bytes (λ r. ring.bytes (turned_ring r)) ring.Good

abbrev pub SomeRings : List ℕ → ℕ → ℕ → Type 0
SomeRings s at n = (target : List ℕ) × Rings s target at n

abbrev pub TurnedRings : List ℕ → ℕ → ℕ → List ℕ → Type 0
TurnedRings s at n s' = (target : List ℕ) → Rings s target at n → s' ≡ target
