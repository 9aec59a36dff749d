-- Which sequence begins with a byte: the lines of the grammar whose first byte is another one fall away.
use Prim.Native.Nat.{ℕ, ◌≤◌, ◌<◌}
use mathlib.Core.Path.{◌≡◌, refl, sym}
use mathlib.Core.Bool.{Bool, true, false, ◌&&◌}
use lib.Dec.{leb, eqb}
use native.Mathlib.Omega.{arith}
use borrow.Author.Tests.{le-leb, lt-leb, ne_eqb, eqb-true, eqb-false, leb-true, leb-false}
use Rattle.format.specs.Result.{pick}
use Rattle.format.specs.Text.{from_to, tail, sequence}
use Rattle.text.specs.Shown.{second_of_three, second_of_four}

-- so many bytes if a test holds, else none
abbrev sized : Bool → ℕ → ℕ
sized t n = pick t n 0

and_true : (t : Bool) → (t && true) ≡ t
and_true true = refl
and_true false = refl

below : (low high a : ℕ) → a < low → from_to low high a ≡ false
below low high a h = rw (lt-leb low a h)

above : (low high a : ℕ) → high < a → from_to low high a ≡ false
above low high a h = by_test (leb low a)
  where
    by_test : (t : Bool) → (t && leb a high) ≡ false
    by_test true = lt-leb a high h
    by_test false = refl

pub inside : (low high a : ℕ) → low ≤ a → a ≤ high → from_to low high a ≡ true
inside low high a h l = rw (le-leb low a h, le-leb a high l)

pub low_is : (a b c d : ℕ) → a ≤ 0x7f → ◌≡◌ {A = ℕ} (sequence a b c d) 1
unfolding sequence
low_is a b c d h = rw (le-leb a 0x7f h)

module _ (a b c d : ℕ) where
  pub two_is : 0x7f < a → a ≤ 0xdf → sequence a b c d ≡ sized (leb 0xc2 a && tail b) 2
  unfolding sequence
  two_is h l =
      rw (
        lt-leb a 0x7f h,
        le-leb a 0xdf l,
        and_true,
        ne_eqb a 0xe0 (λ e. omega arith),
        below 0xe1 0xec a (omega arith),
        ne_eqb a 0xed (λ e. omega arith),
        below 0xee 0xef a (omega arith),
        ne_eqb a 0xf0 (λ e. omega arith),
        below 0xf1 0xf3 a (omega arith),
        ne_eqb a 0xf4 (λ e. omega arith),
      )

  pub three_is : 0xdf < a → a ≤ 0xef → sequence a b c d ≡ sized (second_of_three a b && tail c) 3
  unfolding sequence
  three_is h l =
      rw (lt-leb a 0x7f (omega arith), above 0xc2 0xdf a h, ne_eqb a 0xf0 (λ e. omega arith), below 0xf1 0xf3 a (omega arith), ne_eqb a 0xf4 (λ e. omega arith)) (by_first (eqb a 0xe0) refl (eqb a 0xed) refl)
    where
      Lines : Bool → Bool → Type 0
      Lines e0 ed =
          pick (e0 && (from_to 0xa0 0xbf b && tail c)) 3
          (pick (from_to 0xe1 0xec a && (tail b && tail c)) 3
          (pick (ed && (from_to 0x80 0x9f b && tail c)) 3
          (sized (from_to 0xee 0xef a && (tail b && tail c)) 3)))
          ≡ sized (pick e0 (from_to 0xa0 0xbf b) (pick ed (from_to 0x80 0x9f b) (tail b)) && tail c) 3

      by_first : (e0 : Bool) → eqb a 0xe0 ≡ e0 → (ed : Bool) → eqb a 0xed ≡ ed → Lines e0 ed
      by_first true e ed f = let is : a ≡ 0xe0 = eqb-true a 0xe0 e in rw (← f, is)
      by_first false e true f = let is : a ≡ 0xed = eqb-true a 0xed f in rw is
      by_first false e false f = by_side (leb a 0xec) refl
        where
          by_side : (t : Bool) → leb a 0xec ≡ t → Lines false false
          by_side true g = rw (inside 0xe1 0xec a (omega (arith, eqb-false a 0xe0 e)) (leb-true a 0xec g), below 0xee 0xef a (omega (arith, leb-true a 0xec g)))
          by_side false g = let past = leb-false a 0xec g in rw (above 0xe1 0xec a past, inside 0xee 0xef a (omega (arith, eqb-false a 0xed f)) l)

  pub four_is : 0xef < a → sequence a b c d ≡ sized (second_of_four a b && (tail c && tail d)) 4
  unfolding sequence
  four_is h =
      rw (lt-leb a 0x7f (omega arith), above 0xc2 0xdf a (omega arith), ne_eqb a 0xe0 (λ e. omega arith), above 0xe1 0xec a (omega arith), ne_eqb a 0xed (λ e. omega arith), above 0xee 0xef a h)
      (by_first (eqb a 0xf0) refl (eqb a 0xf4) refl (from_to 0xf1 0xf3 a) refl)
    where
      Lines : Bool → Bool → Bool → Type 0
      Lines f0 f4 middle =
          pick (f0 && (from_to 0x90 0xbf b && (tail c && tail d))) 4
          (pick (middle && (tail b && (tail c && tail d))) 4
          (sized (f4 && (from_to 0x80 0x8f b && (tail c && tail d))) 4))
          ≡ sized (pick f0 (from_to 0x90 0xbf b) (pick f4 (from_to 0x80 0x8f b) (middle && tail b)) && (tail c && tail d)) 4

      by_first : (f0 : Bool) → eqb a 0xf0 ≡ f0 → (f4 : Bool) → eqb a 0xf4 ≡ f4 → (middle : Bool) → from_to 0xf1 0xf3 a ≡ middle → Lines f0 f4 middle
      by_first true e f4 f middle g = let is : a ≡ 0xf0 = eqb-true a 0xf0 e in rw (← f, ← g, is)
      by_first false e true f middle g = let is : a ≡ 0xf4 = eqb-true a 0xf4 f in rw (← g, is)
      by_first false e false f true g = by_test (tail b && (tail c && tail d))
        where
          by_test : (t : Bool) → pick t 4 0 ≡ sized t 4
          by_test t = refl
      by_first false e false f false g = refl

  -- the same, by what the tests of the code answer
  module _ (t u : Bool) where
    pub two_of : 0x7f < a → a ≤ 0xdf → t ≡ leb 0xc2 a → u ≡ tail b → sized (t && u) 2 ≡ sequence a b c d
    two_of h l e f = rw (e, f) (sym (two_is h l))

    pub three_of : 0xdf < a → a ≤ 0xef → t ≡ second_of_three a b → u ≡ tail c → sized (t && u) 3 ≡ sequence a b c d
    three_of h l e f = rw (e, f) (sym (three_is h l))

    pub four_of : (v : Bool) → 0xef < a → t ≡ second_of_four a b → u ≡ tail c → v ≡ tail d → sized (t && (u && v)) 4 ≡ sequence a b c d
    four_of v h e f g = rw (e, f, g) (sym (four_is h))

  sized_few : (t : Bool) (n : ℕ) → n ≤ 4 → sized t n ≤ 4
  sized_few true n h = h
  sized_few false n h = omega arith

  pub few_bytes : sequence a b c d ≤ 4
  few_bytes = by_first (leb a 0x7f) refl (leb a 0xdf) refl (leb a 0xef) refl
    where
      by_first : (t₁ : Bool) → leb a 0x7f ≡ t₁ → (t₂ : Bool) → leb a 0xdf ≡ t₂ → (t₃ : Bool) → leb a 0xef ≡ t₃ → sequence a b c d ≤ 4
      by_first true e t₂ f t₃ g = rw (low_is a b c d (leb-true a 0x7f e)) (omega arith)
      by_first false e true f t₃ g = rw (two_is (leb-false a 0x7f e) (leb-true a 0xdf f)) (sized_few (leb 0xc2 a && tail b) 2 (omega arith))
      by_first false e false f true g = rw (three_is (leb-false a 0xdf f) (leb-true a 0xef g)) (sized_few (second_of_three a b && tail c) 3 (omega arith))
      by_first false e false f false g = rw (four_is (leb-false a 0xef g)) (sized_few (second_of_four a b && (tail c && tail d)) 4 (omega arith))
