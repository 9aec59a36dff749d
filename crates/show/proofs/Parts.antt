-- A part that is cut where the message ends: what lies past that is nothing.
use Prim.Native.Nat.{ℕ, zero, suc, ◌+◌, ◌-◌, min}
use native.Mathlib.Nat.{zero-min, min-zero, suc-min-suc, add-sub_cancel_left}
use mathlib.Core.Path.{◌≡◌, ◌∙◌}
use mathlib.Core.List.{List, [], ◌∷◌}
use lib.ListN.{length, take, drop, length-drop}
use denote.Ref.{Bor}
use Rattle.show.specs.Parts.{IsPart}

module _ {A : Type 0} where
  take-cut : (n : ℕ) (l : List A) → take (min n (length l)) l ≡ take n l
  take-cut zero l = rw zero-min
  take-cut (suc n) [] = rw min-zero
  take-cut (suc n) (x ∷ l) = rw (suc-min-suc, take-cut n l)

  drop-cut : (n : ℕ) (l : List A) → drop (min n (length l)) l ≡ drop n l
  drop-cut zero l = rw zero-min
  drop-cut (suc n) [] = rw min-zero
  drop-cut (suc n) (x ∷ l) = rw (suc-min-suc, drop-cut n l)

pub cut : (m r : Bor (List ℕ)) (start size from n : ℕ) → from ≡ min start (length m.now) → n ≡ min size (length m.now - from)
    → r.ref_ptr ≡ (m.ref_ptr.0, from + m.ref_ptr.1) → r.now ≡ take (from + n - from) (drop from m.now) → IsPart m start size r
cut m r start size from n e f p b =
    record {
      place = p ∙ rw e;
      bytes = b ∙ rw (add-sub_cancel_left, f, ← length-drop from m.now, take-cut size (drop from m.now), e, drop-cut start m.now);
    }
