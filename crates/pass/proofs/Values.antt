-- How values, arrays, parameters and a response's head are passed, each by its parts.
use Prim.Native.Nat.{ℕ}
use mathlib.Core.Path.{◌≡◌}
use mathlib.Core.Bool.{Bool, true, false, ◌||◌}
use mathlib.Core.List.{List}
use mathlib.Core.Logic.{◌⊎◌, inl, inr, ⊎_elim}
use lib.ListN.{length, replicate}
use lib.Dec.{leb, ltb, eqb}
use borrow.Author.Tests.{ne_eqb}
use Rattle.format.specs.declared.Fault.{Fault}
use Rattle.format.specs.declared.Fault.TheVariants.{Limit, Negative, WireType, Decimal, Point}
use Rattle.format.specs.Result.{pick}
use Rattle.format.specs.Number.{half}
use Rattle.format.specs.Format.{Format, Index, Verdict, number, block, ruled, both, each}
use Rattle.format.specs.Value.{fixed, body, number_of, body_of, value, string, rule_of, is_counted, is_column, width_of, fixed_fine, t_null, t_array}
use Rattle.format.specs.Message.{list, items, bytes, bytes_of, values, values_of, binary, most_items, second, column_type, argument, null, one, one_of, array, array_of, param, flag_byte, after_flags, head}
use Rattle.pass.specs.Passes.{Passes}
use Rattle.pass.proofs.Parts.{Gives, gives_ruled, gives_number, passes_ruled, passes_into, passes_nothing, passes_by}

-- a body's types, and the others
pub passes_body : (s : List ℕ) {at r : ℕ} (l b t : ℕ) → (t ≡ 9) ⊎ ((t ≡ 25) ⊎ (t ≡ 27)) → ((nullable : Bool) (rule : List ℕ → Verdict) (l b : ℕ) → Passes (string nullable rule l b) s at r)
    → Passes (value l b t) s at r
unfolding value
passes_body s l b t is p =
    let counted_type : is_counted t ≡ true = ⊎_elim (λ e. rw e) (λ more. ⊎_elim (λ e. rw e) (λ e. rw e) more) is in
    rw counted_type (passes_into s body body_of (p true (rule_of t) l b))

pub passes_plain : (s : List ℕ) {at r : ℕ} (l b t : ℕ) → ((t ≡ 9) ⊎ ((t ≡ 25) ⊎ (t ≡ 27)) → ⊥) → Passes (number (width_of t) b) s at r → Passes (value l b t) s at r
unfolding value
passes_plain s l b t other p =
    let fixed_type : is_counted t ≡ false = simp (ne_eqb t 9 (λ e. other (inl e)), ne_eqb t 25 (λ e. other (inr (inl e))), ne_eqb t 27 (λ e. other (inr (inr e)))) in
    rw fixed_type (passes_into s fixed number_of (passes_ruled s (fixed_fine t) (pick (eqb t 22) Decimal Point) p))

-- a body's types have no size of their own
pub unsized : (t : ℕ) → (t ≡ 9) ⊎ ((t ≡ 25) ⊎ (t ≡ 27)) → width_of t ≡ 0
unsized t is = ⊎_elim (λ e. rw e) (λ more. ⊎_elim (λ e. rw e) (λ e. rw e) more) is

-- a type byte, and what it decides
module _ {B : Type 0} (test : ℕ → Bool) (fault : Fault) (field : ℕ) (g : ℕ → Format B) (s : List ℕ) {at mid r t : ℕ} where
  pub passes_typed : Gives (number 1 0) s at t → Passes (number 1 field) s at mid → Passes (g t) s mid r → Passes (both (ruled test fault (number 1 field)) g) s at r
  passes_typed told p u = passes_by s g (gives_ruled test fault (number 1 field) s at (gives_number 1 field s at told)) (passes_ruled s test fault p) u

-- a count, and as many values of one format
module _ {A : Type 0} (k most field : ℕ) (at-index : ℕ → Index → Index) (f : Format A) (s : List ℕ) {at mid r n : ℕ} where
  pub passes_list : Gives (number k 0) s at n → Passes (number k field) s at mid → Passes (each at-index 0 (replicate n f)) s mid r → Passes (list k most field at-index f) s at r
  unfolding list
  passes_list told p u =
      let natural = ruled (λ m. ltb m (half k)) Negative (number k field) in
      let counted = gives_ruled (λ m. leb m most) Limit natural s at (gives_ruled (λ m. ltb m (half k)) Negative (number k field) s at (gives_number k field s at told)) in
      passes_into s (λ v. v.1) (λ l. (length l, l))
      (passes_by s (λ m. each at-index 0 (replicate m f)) counted (passes_ruled s (λ m. leb m most) Limit (passes_ruled s (λ m. ltb m (half k)) Negative p)) u)

module _ (s : List ℕ) {at r : ℕ} (t : ℕ) where
  -- an array's elements
  pub passes_bytes : t ≡ 3 → Passes (binary 26 28) s at r → Passes (items t) s at r
  unfolding items
  passes_bytes is p = rw is (passes_into s bytes bytes_of p)

  pub passes_values : (t ≡ 3 → ⊥) → Passes (list 2 most_items 26 second (value 27 28 t)) s at r → Passes (items t) s at r
  unfolding items
  passes_values other p = rw (ne_eqb t 3 other) (passes_into s values values_of p)

  -- what stands after a parameter's type
  pub passes_one : (t ≡ 1 → ⊥) → (t ≡ 157 → ⊥) → Passes (value 27 28 t) s at r → Passes (argument t) s at r
  unfolding argument
  passes_one a b p = rw (ne_eqb t 1 a, ne_eqb t 157 b) (passes_into s one one_of p)

  pub passes_array : t ≡ 157 → Passes (both (column_type 25) items) s at r → Passes (argument t) s at r
  unfolding argument
  passes_array is p = rw is (passes_into s (λ v. array v.0 v.1) array_of p)

pub passes_no_argument : (s : List ℕ) (at t : ℕ) → t ≡ 1 → Passes (argument t) s at at
unfolding argument
passes_no_argument s at t is = rw is (passes_nothing null s at)

-- a type that a parameter has
abbrev pub is_param : ℕ → Bool
is_param t = is_column t || (eqb t t_null || eqb t t_array)

module _ (s : List ℕ) {at r : ℕ} where
  pub passes_param : Passes (both (ruled is_param WireType (number 1 24)) argument) s at r → Passes param s at r
  unfolding param
  passes_param p = passes_into s _ _ p

  pub passes_head : (timed : Bool) → Passes (both (block 8 22) (λ c. both (flag_byte 30) (after_flags timed))) s at r → Passes (head timed) s at r
  unfolding head
  passes_head timed p = passes_into s _ _ p
