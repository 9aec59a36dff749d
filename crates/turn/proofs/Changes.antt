-- Things that are changed one by one: when the first of those that are left is changed in its place, the others are left; when none is left, all is done.
use Prim.Native.Nat.{ℕ, suc, ◌+◌}
use mathlib.Core.Path.{◌≡◌, sym, ◌∙◌, ap}
use mathlib.Core.List.{List, [], ◌∷◌, ◌++◌, flat_map, append_assoc}
use lib.ListN.{length, length-append}
use native.Mathlib.Omega.{arith}
use Rattle.turn.specs.Turning.{Each, Changing}

module _ {A : Type 0} (old new : A → List ℕ) (Fine : A → Type 0) where
  -- the first of those that are left, where it stands, and what comes of changing it
  pub record First (s target : List ℕ) (at left : ℕ) : Type 0 where
    pub one : A
    pub fine : Fine one
    pub front : List ℕ
    pub rest : List ℕ
    pub stands : front ++ (old one ++ rest) ≡ s
    pub place : length front ≡ at
    pub then : (s' : List ℕ) → s' ≡ front ++ (new one ++ rest) → Changing old new Fine s' target (at + length (new one)) left

  none_left : (todo : List A) (front back s target : List ℕ) → length todo ≡ 0 → front ++ (flat_map old todo ++ back) ≡ s → front ++ (flat_map new todo ++ back) ≡ target → s ≡ target
  unfolding flat_map
  none_left [] front back s target n e h = sym e ∙ h
  none_left (a ∷ todo) front back s target n e h = absurd (omega arith)

  pub all_changed : {s target : List ℕ} {at : ℕ} → Changing old new Fine s target at 0 → s ≡ target
  all_changed c = none_left c.todo c.front c.back _ _ c.many c.stands c.becomes

  first_of : (todo : List A) (front back s target : List ℕ) (at left : ℕ) → front ++ (flat_map old todo ++ back) ≡ s → front ++ (flat_map new todo ++ back) ≡ target
      → length front ≡ at → length todo ≡ suc left → Each Fine todo → First s target at left
  unfolding flat_map
  first_of [] front back s target at left e h p n g = absurd (omega arith)
  first_of (a ∷ todo) front back s target at left e h p n g = record {
    one = a;
    fine = g.0;
    front = front;
    rest = flat_map old todo ++ back;
    stands = ap (λ (z : List ℕ). front ++ z) (sym (append_assoc (old a) (flat_map old todo) back)) ∙ e;
    place = p;
    then = λ s' is. record {
      front = front ++ new a;
      todo = todo;
      back = back;
      stands = append_assoc front (new a) (flat_map old todo ++ back) ∙ sym is;
      becomes = append_assoc front (new a) (flat_map new todo ++ back) ∙ ap (λ (z : List ℕ). front ++ z) (sym (append_assoc (new a) (flat_map new todo) back)) ∙ h;
      place = rw (length-append, p);
      many = omega arith;
      fine = g.1;
    };
  }

  pub first_left : {s target : List ℕ} {at left : ℕ} → Changing old new Fine s target at (suc left) → First s target at left
  first_left c = first_of c.todo c.front c.back _ _ _ _ c.stands c.becomes c.place c.many c.fine
