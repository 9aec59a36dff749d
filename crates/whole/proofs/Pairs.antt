-- The numbers of a row by twos, a cell each: the first of those that are left, and none left.
use Prim.Native.Nat.{ℕ, ◌+◌, ◌*◌, ◌/◌, ◌<◌, ◌≤◌}
use native.Mathlib.Omega.{arith}
use native.Mathlib.Nat.{add-zero}
use mathlib.Core.Path.{◌≡◌, sym, ap, ◌∙◌}
use mathlib.Core.List.{List, [], ◌∷◌, ◌++◌}
use lib.ListN.{length, drop, get_or}
use lib.Seq.{drop-drop}
use Rattle.std.proofs.lemmas.List.{length-drop, get_or-drop}

-- what is left before the k-th cell, in parts of so many numbers
abbrev pub Left : List ℕ → ℕ → ℕ → List ℕ → Type 0
Left ns k size left = (size ≡ 2) × (left ≡ drop (2 * k) ns)

-- the k-th cell, and what is left behind it
pub record Pair (ns : List ℕ) (k : ℕ) (cell rest : List ℕ) : Type 0 where
  pub there : k < length ns / 2
  pub upper : get_or cell 0 0 ≡ get_or ns (2 * k) 0
  pub lower : get_or cell 1 0 ≡ get_or ns (2 * k + 1) 0
  pub behind : rest ≡ drop (2 * (k + 1)) ns

pub pair : (ns : List ℕ) (k : ℕ) {size : ℕ} {left : List ℕ} (cell rest : List ℕ) → Left ns k size left → left ≡ cell ++ rest → length cell ≡ size → Pair ns k cell rest
pair ns k [] rest l e n = absurd (omega (arith, l.0, n))
pair ns k (a ∷ []) rest l e n = absurd (omega (arith, l.0, n))
pair ns k (a ∷ b ∷ []) rest l e n =
    let is : drop (2 * k) ns ≡ a ∷ b ∷ rest = sym l.1 ∙ e in
    record {
      there = omega (arith, length-drop (2 * k) ns, ap length is);
      upper = sym (ap (λ (x : List ℕ). get_or x 0 0) is) ∙ (get_or-drop (2 * k) ns 0 0 ∙ ap (λ (m : ℕ). get_or ns m 0) (add-zero (2 * k)));
      lower = sym (ap (λ (x : List ℕ). get_or x 1 0) is) ∙ get_or-drop (2 * k) ns 1 0;
      behind = sym (ap (drop 2) is) ∙ (drop-drop 2 (2 * k) ns ∙ ap (λ (m : ℕ). drop m ns) (omega arith));
    }
pair ns k (a ∷ b ∷ c ∷ cs) rest l e n = absurd (omega (arith, l.0, n))

pub no_pair : (ns : List ℕ) (k : ℕ) {size : ℕ} {left : List ℕ} → Left ns k size left → length left < size → length ns / 2 ≤ k
no_pair ns k l h = omega (arith, length-drop (2 * k) ns, ap length l.1, l.0, h)
