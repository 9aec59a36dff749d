-- What stands at a place of a list (specs/Stands.antt) is read, and its parts stand where the bytes before them end.
use Prim.Native.Nat.{ℕ, ◌+◌, ◌≤◌}
use mathlib.Core.Path.{◌≡◌, ap}
use mathlib.Core.Bool.{Bool}
use mathlib.Core.List.{List, ◌∷◌, ◌++◌, append_assoc}
use lib.ListN.{length, length-append}
use native.Mathlib.Omega.{arith}
use Rattle.format.specs.declared.Fault.{Fault}
use Rattle.format.specs.Result.{ok}
use Rattle.format.specs.Number.{num_bytes}
use Rattle.format.specs.Format.{Format, Index, ruled, into, both, each, room}
use Rattle.format.proofs.Laws.{Lawful}
use Rattle.format.proofs.Numbers.{length-num_bytes}
use Rattle.places.specs.Stands.{Stands}

module _ {A : Type 0} {f : Format A} {s : List ℕ} {at : ℕ} {a : A} where
  pub stands_read : Lawful f → Stands f s at a → f.read s at ≡ ok (a, at + length (f.bytes a))
  stands_read l d = rw (d.whole, d.start) at (l.complete d.before d.after a d.good)

  pub stands_fits : Stands f s at a → at + length (f.bytes a) ≤ length s
  stands_fits d = omega (arith, d.start, simp length-append at (ap length d.whole))

  -- the same place, told otherwise
  pub stands_at_lem : {p : ℕ} → at ≡ p → Stands f s at a → Stands f s p a
  stands_at_lem e d = rw (← e) d

module _ {A : Type 0} {s : List ℕ} {at : ℕ} {a : A} where
  -- a rule takes nothing away
  pub stands_ruled : (test : A → Bool) (fault : Fault) {f : Format A} → Stands (ruled test fault f) s at a → Stands f s at a
  unfolding ruled
  stands_ruled test fault d = record { good = d.good.0; before = d.before; after = d.after; whole = d.whole; start = d.start }

module _ {A B : Type 0} {s : List ℕ} {at : ℕ} where
  pub stands_into : (to : A → B) (from : B → A) {f : Format A} {b : B} → Stands (into to from f) s at b → Stands f s at (from b)
  unfolding into
  stands_into to from d = record { good = d.good.0; before = d.before; after = d.after; whole = d.whole; start = d.start }

  -- one value, and the next after it
  pub stands_first : (f : Format A) (g : A → Format B) {v : A × B} → Stands (both f g) s at v → Stands f s at v.0
  unfolding both
  stands_first f g {v} d = record {
    good = d.good.0;
    before = d.before;
    after = (g v.0).bytes v.1 ++ d.after;
    whole = rw (← append_assoc (f.bytes v.0)) d.whole;
    start = d.start;
  }

  pub stands_second : (f : Format A) (g : A → Format B) {v : A × B} → Stands (both f g) s at v → Stands (g v.0) s (at + length (f.bytes v.0)) v.1
  unfolding both
  stands_second f g {v} d = record {
    good = d.good.1;
    before = d.before ++ f.bytes v.0;
    after = d.after;
    whole = rw (append_assoc d.before, ← append_assoc (f.bytes v.0)) d.whole;
    start = rw (length-append, d.start);
  }

module _ {A : Type 0} {s : List ℕ} {at : ℕ} where
  -- what a room holds, after its length
  pub stands_inner : (most field : ℕ) {f : Format A} {a : A} → Stands (room most field f) s at a → Stands f s (at + 4) a
  unfolding room
  stands_inner most field {f} {a} d = record {
    good = d.good.0;
    before = d.before ++ num_bytes 4 (length (f.bytes a));
    after = d.after;
    whole = rw (append_assoc d.before, ← append_assoc (num_bytes 4 (length (f.bytes a)))) d.whole;
    start = rw (length-append, d.start, length-num_bytes);
  }

module _ {A : Type 0} {s : List ℕ} where
  -- the first of some values, and the others
  module _ (at-index : ℕ → Index → Index) (k : ℕ) (f : Format A) (fs : List (Format A)) {at : ℕ} {a : A} {l : List A} where
    pub stands_head : Stands (each at-index k (f ∷ fs)) s at (a ∷ l) → Stands f s at a
    unfolding each
    stands_head d = record {
      good = d.good.0;
      before = d.before;
      after = (each at-index (k + 1) fs).bytes l ++ d.after;
      whole = rw (← append_assoc (f.bytes a)) d.whole;
      start = d.start;
    }

    pub stands_tail : Stands (each at-index k (f ∷ fs)) s at (a ∷ l) → Stands (each at-index (k + 1) fs) s (at + length (f.bytes a)) l
    unfolding each
    stands_tail d = record {
      good = d.good.1;
      before = d.before ++ f.bytes a;
      after = d.after;
      whole = rw (append_assoc d.before, ← append_assoc (f.bytes a)) d.whole;
      start = rw (length-append, d.start);
    }
