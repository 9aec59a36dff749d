-- Tests that agree, and what a step answers by the first test that fails.
use Prim.Native.Nat.{ℕ, ◌+◌, ◌<◌, ◌≤◌}
use mathlib.Core.Path.{◌≡◌, refl, sym, ap, ◌∙◌}
use mathlib.Core.Bool.{Bool, true, false, ◌&&◌}
use mathlib.Core.List.{List, [], ◌∷◌, ◌++◌}
use lib.ListN.{length, take, get_or}
use lib.Dec.{leb}
use lib.Seq.{take-suc}
use native.Mathlib.Numerals.{add-one}
use borrow.Author.Tests.{le-leb, lt-leb, leb-true, leb-false}
use Rattle.format.specs.declared.Fault.TheVariants.{Limit, Output}
use Rattle.format.specs.Result.{ok, no}
use Rattle.format.specs.Format.{fine}
use Rattle.format.specs.Message.{most_message}
use Rattle.format.specs.Value.{is_column}
use Rattle.steps.specs.Steps.{answer_at}
use Rattle.steps.specs.State.{all_columns}

pub same_leb : (a b x y : ℕ) → (a ≤ b → x ≤ y) → (b < a → y < x) → leb a b ≡ leb x y
same_leb a b x y f g = go (leb a b) refl
  where
    go : (t : Bool) → leb a b ≡ t → leb a b ≡ leb x y
    go true e = e ∙ sym (le-leb x y (f (leb-true a b e)))
    go false e = e ∙ sym (lt-leb x y (g (leb-false a b e)))

-- columns, one more at a time
all_snoc : (l : List ℕ) (t : ℕ) → all_columns (l ++ (t ∷ [])) ≡ is_column t && all_columns l
all_snoc [] t = refl
all_snoc (x ∷ l) t = ap (λ (b : Bool). is_column x && b) (all_snoc l t) ∙ swap (is_column x) (is_column t) (all_columns l)
  where
    swap : (a b c : Bool) → a && (b && c) ≡ b && (a && c)
    swap true true c = refl
    swap true false c = refl
    swap false true c = refl
    swap false false c = refl

pub all_next : (l : List ℕ) (i : ℕ) → i < length l → is_column (get_or l i 0) && all_columns (take i l) ≡ all_columns (take (i + 1) l)
all_next l i h = sym (rw (add-one, take-suc l i 0 h) (all_snoc (take i l) (get_or l i 0)))

-- past the message's limit, past the buffer, and there
pub too_far : (at n size : ℕ) → 4 + most_message < at + n → answer_at true fine true at n size ≡ no Limit at
too_far at n size h = rw (lt-leb _ _ h)

pub no_room : (at n size : ℕ) → at + n ≤ 4 + most_message → size < at + n → answer_at true fine true at n size ≡ no Output (at + n)
no_room at n size h k = rw (le-leb _ _ h, lt-leb _ _ k)

pub there : (at n size : ℕ) → at + n ≤ 4 + most_message → at + n ≤ size → answer_at true fine true at n size ≡ ok (at + n)
there at n size h k = rw (le-leb _ _ h, le-leb _ _ k)
