-- Values of one format that stand side by side are good exactly if each is. So other values of the same kind may take their place: fewer, or in another order.
use Prim.Native.Nat.{ℕ, zero, suc, ◌+◌}
use mathlib.Core.Path.{◌≡◌, refl, ◌∙◌}
use mathlib.Core.List.{List, [], ◌∷◌, map, reverse, reverse_aux}
use lib.ListN.{length, replicate, length-replicate}
use native.Mathlib.Omega.{arith}
use Rattle.format.specs.Format.{Format, Index, nothing, each}
use Rattle.format.proofs.Laws.{length-each}

module _ {A : Type 0} (P : A → Type 0) where
  abbrev pub All : List A → Type 0
  All [] = Unit
  All (a ∷ l) = P a × All l

  all_reverse_aux : (l r : List A) → All l → All r → All (reverse_aux l r)
  all_reverse_aux [] r p q = q
  all_reverse_aux (a ∷ l) r p q = all_reverse_aux l (a ∷ r) p.1 (p.0, q)

  pub all_reverse : (l : List A) → All l → All (reverse l)
  all_reverse l p = all_reverse_aux l [] p tt

  pub all_map : (f : A → A) → ((a : A) → P a → P (f a)) → (l : List A) → All l → All (map f l)
  all_map f h [] p = tt
  all_map f h (a ∷ l) p = (h a p.0, all_map f h l p.1)

module _ {A : Type 0} (at-index : ℕ → Index → Index) (f : Format A) where
  pub each→all : (k n : ℕ) (l : List A) → (each at-index k (replicate n f)).Good l → All f.Good l
  unfolding each nothing
  each→all k zero l g = rw g tt
  each→all k (suc n) [] g = tt
  each→all k (suc n) (a ∷ l) g = (g.0, each→all (k + 1) n l g.1)

  pub all→each : (k n : ℕ) (l : List A) → length l ≡ n → All f.Good l → (each at-index k (replicate n f)).Good l
  unfolding each nothing
  all→each k zero [] h p = refl
  all→each k zero (a ∷ l) h p = absurd (omega arith)
  all→each k (suc n) [] h p = absurd (omega arith)
  all→each k (suc n) (a ∷ l) h p = (p.0, all→each (k + 1) n l (omega arith) p.1)

  pub each_length : (k n : ℕ) (l : List A) → (each at-index k (replicate n f)).Good l → length l ≡ n
  each_length k n l g = length-each at-index k (replicate n f) l g ∙ length-replicate n f
