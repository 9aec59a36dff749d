-- The walks over values, arrays and parameters, each made from the walks over its parts.
use Rattle.std.proofs.Common.{◌≡◌, ℕ, ◌/◌, ◌^◌, Bool, true, false, ◌||◌, eqb, ltb, leb, ◌⊎◌, List, length, replicate, refl, ap, ◌∙◌, inl, inr, ⊎_elim, lit<, ne_eqb}
use lib.ListN.{length-replicate}
use Rattle.format.specs.declared.Fault.{Fault}
use Rattle.format.specs.declared.Fault.TheVariants.{Limit, Negative, WireType, Decimal, Point}
use Rattle.format.specs.Result.{ok, pick}
use Rattle.format.specs.Number.{Bytes, half}
use Rattle.format.specs.Format.{Format, Index, Verdict, number, ruled, both, each}
use Rattle.format.specs.Value.{fixed, body, number_of, body_of, value, string, anything, rule_of, is_counted, is_column, width_of, fixed_fine, most_bytes, t_null, t_array}
use Rattle.format.specs.Message.{count, list, items, bytes, bytes_of, values, values_of, binary, most_items, second, column_type, argument, null, one, one_of, array, array_of, param}
use Rattle.format.proofs.Results.{passed, bound}
use Rattle.format.proofs.Laws.{Lawful, lawful_number, lawful_ruled, lawful_both, lawful_each, all_replicate, length-each}
use Rattle.format.proofs.Lengths.{lawful_counted}
use Rattle.format.proofs.Formats.{lawful_value, lawful_list, lawful_items, lawful_argument}
use Rattle.tally.specs.declared.Tour.{Tour}
use Rattle.tally.specs.Walks.{Walked}
use Rattle.tally.proofs.Tours.{walked_ruled, walked_into, walked_both, walked_nothing}

pub lawful_string : (nullable : Bool) (rule : List ℕ → Verdict) (l b : ℕ) → Lawful (string nullable rule l b)
lawful_string nullable rule l b = lawful_counted nullable most_bytes rule l b (lit< tt)

pub lawful_count : (k most field : ℕ) → Lawful (count k most field)
lawful_count k most field = lawful_ruled (λ n. leb n most) Limit (lawful_ruled (λ n. ltb n (half k)) Negative (lawful_number k field))

pub lawful_element : Lawful (column_type 25)
lawful_element = lawful_ruled is_column WireType (lawful_number 1 25)

-- a body's types, and the others
pub counted_type : (t : ℕ) → (t ≡ 9) ⊎ ((t ≡ 25) ⊎ (t ≡ 27)) → is_counted t ≡ true
counted_type t is = ⊎_elim (λ e. rw e) (λ more. ⊎_elim (λ e. rw e) (λ e. rw e) more) is

pub fixed_type : (t : ℕ) → ((t ≡ 9) ⊎ ((t ≡ 25) ⊎ (t ≡ 27)) → ⊥) → is_counted t ≡ false
fixed_type t other = simp (ne_eqb t 9 (λ e. other (inl e)), ne_eqb t 25 (λ e. other (inr (inl e))), ne_eqb t 27 (λ e. other (inr (inr e))))

-- what was read by a rule was read
pub ruled_read : {A : Type 0} (test : A → Bool) (fault : Fault) (f : Format A) (s : List ℕ) (at : ℕ) {w : A × ℕ} → (ruled test fault f).read s at ≡ ok w → f.read s at ≡ ok w
unfolding ruled
ruled_read test fault f s at e = let r = bound (f.read s at) e in r.1 ∙ (passed (test r.0.0) _ _ r.2).1

pub count_read : (k most field : ℕ) (s : List ℕ) (at n next : ℕ) → (count k most field).read s at ≡ ok (n, next) → (number k 0).read s at ≡ ok (n, next)
unfolding number
count_read k most field s at n next e = ruled_read (λ m. ltb m (half k)) Negative (number k field) s at (ruled_read (λ m. leb m most) Limit _ s at e)

module _ (s : List ℕ) (by : Bytes s) {tour : Tour} {out : List ℕ} {after : Tour} {written : List ℕ} where
  module _ {ix : Index} where
    pub walked_body : (l b t : ℕ) → is_counted t ≡ true → ((nullable : Bool) (rule : List ℕ → Verdict) → Walked (string nullable rule l b) s ix tour out after written)
        → Walked (value l b t) s ix tour out after written
    unfolding value
    walked_body l b t is w =
        let rule = rule_of t in
        rw is (walked_into s body body_of by (lawful_string true rule l b) (λ a g. refl) (w true rule))

    -- a value of one size, whose rule changes nothing of its field
    pub walked_plain : (l b t : ℕ) → is_counted t ≡ false → Walked (number (width_of t) b) s ix tour out after written → Walked (value l b t) s ix tour out after written
    unfolding value
    walked_plain l b t is w =
        let fault = pick (eqb t 22) Decimal Point in
        rw is (walked_into s fixed number_of by (lawful_ruled (fixed_fine t) fault (lawful_number (width_of t) b)) (λ a g. refl) (walked_ruled s (fixed_fine t) fault w))

module _ {A : Type 0} where
  list_back : (c : Format ℕ) (at-index : ℕ → Index → Index) (f : Format A) (v : ℕ × List A)
      → (both c (λ n. each at-index 0 (replicate n f))).Good v → ◌≡◌ {A = ℕ × List A} (length v.1, v.1) v
  unfolding both
  list_back c at-index f v g = ap (λ (n : ℕ). (n, v.1)) (length-each at-index 0 (replicate v.0 f) v.1 g.1 ∙ length-replicate v.0 f)

-- a count, and as many values of one format
module _ {A : Type 0} (k most field : ℕ) (at-index : ℕ → Index → Index) {f : Format A} (l : Lawful f) (s : List ℕ) (by : Bytes s)
    {ix : Index} {tour : Tour} {out : List ℕ} {mid : Tour} {half : List ℕ} {after : Tour} {written : List ℕ} {n : ℕ} where
  pub walked_list : ((m next : ℕ) → (number k 0).read s tour.at ≡ ok (m, next) → n ≡ m) → Walked (number k field) s ix tour out mid half
      → Walked (each at-index 0 (replicate n f)) s ix mid half after written → Walked (list k most field at-index f) s ix tour out after written
  unfolding list
  walked_list told t u =
      let c = count k most field in
      let g : ℕ → Format (List A) = λ m. each at-index 0 (replicate m f) in
      walked_into s (λ v. v.1) (λ l. (length l, l)) by (lawful_both (lawful_count k most field) (λ m. lawful_each at-index 0 (replicate m f) (all_replicate m l))) (list_back c at-index f)
      (walked_both by {g = g} (lawful_count k most field) (walked_ruled s (λ m. leb m most) Limit (walked_ruled s (λ m. ltb m (256 ^ k / 2)) Negative t))
      (λ m next e.
      let same : n ≡ m = told m next (count_read k most field s tour.at m next e) in
      rw same at u))

module _ (s : List ℕ) (by : Bytes s) {ix : Index} {tour : Tour} {out : List ℕ} {after : Tour} {written : List ℕ} (t : ℕ) where
  -- an array's elements
  pub walked_bytes : t ≡ 3 → Walked (binary 26 28) s ix tour out after written → Walked (items t) s ix tour out after written
  unfolding items
  walked_bytes is w = rw is (walked_into s bytes bytes_of by (lawful_string false anything 26 28) (λ a g. refl) w)

  pub walked_values : (t ≡ 3 → ⊥) → Walked (list 2 most_items 26 second (value 27 28 t)) s ix tour out after written → Walked (items t) s ix tour out after written
  unfolding items
  walked_values other w = rw (ne_eqb t 3 other) (walked_into s values values_of by (lawful_list 2 most_items 26 second (lawful_value 27 28 t)) (λ a g. refl) w)

  -- what stands after a parameter's type
  pub walked_one : (t ≡ 1 → ⊥) → (t ≡ 157 → ⊥) → Walked (value 27 28 t) s ix tour out after written → Walked (argument t) s ix tour out after written
  unfolding argument
  walked_one a b w = rw (ne_eqb t 1 a, ne_eqb t 157 b) (walked_into s one one_of by (lawful_value 27 28 t) (λ v g. refl) w)

  pub walked_array : t ≡ 157 → Walked (both (column_type 25) items) s ix tour out after written → Walked (argument t) s ix tour out after written
  unfolding argument
  walked_array is w = rw is (walked_into s (λ v. array v.0 v.1) array_of by (lawful_both lawful_element lawful_items) (λ v g. refl) w)

pub walked_null_argument : (s : List ℕ) {ix : Index} (tour : Tour) (out : List ℕ) (t : ℕ) → t ≡ 1 → Walked (argument t) s ix tour out tour out
unfolding argument
walked_null_argument s tour out t is = rw is (walked_nothing s tour out null)

-- a type byte, and what it decides
module _ {B : Type 0} (test : ℕ → Bool) (fault : Fault) (field : ℕ) (g : ℕ → Format B) (s : List ℕ) (by : Bytes s)
    {ix : Index} {tour : Tour} {out : List ℕ} {mid : Tour} {half : List ℕ} {after : Tour} {written : List ℕ} {t : ℕ} where
  pub walked_typed : ((m next : ℕ) → (number 1 0).read s tour.at ≡ ok (m, next) → t ≡ m) → Walked (number 1 field) s ix tour out mid half
      → Walked (g t) s ix mid half after written → Walked (both (ruled test fault (number 1 field)) g) s ix tour out after written
  unfolding number
  walked_typed told w u =
      walked_both by {g = g} (lawful_ruled test fault (lawful_number 1 field)) (walked_ruled s test fault w) (λ m next e.
      let same : t ≡ m = told m next (ruled_read test fault (number 1 field) s tour.at e) in
      rw same at u)

-- a type that a parameter has
abbrev pub is_param : ℕ → Bool
is_param t = is_column t || (eqb t t_null || eqb t t_array)

pub walked_param : (s : List ℕ) (by : Bytes s) {ix : Index} {tour : Tour} {out : List ℕ} {after : Tour} {written : List ℕ}
    → Walked (both (ruled is_param WireType (number 1 24)) argument) s ix tour out after written → Walked param s ix tour out after written
unfolding param
walked_param s by w =
    walked_into s (λ v. record { type = v.0; argument = v.1 }) (λ l. (l.type, l.argument)) by
    (lawful_both (lawful_ruled is_param WireType (lawful_number 1 24)) lawful_argument) (λ v g. refl) w

-- what stands for a count, where its reading gives one
pub count_told : (s : List ℕ) (k most field at : ℕ) {n : ℕ} → ((m next : ℕ) → (number k 0).read s at ≡ ok (m, next) → n ≡ m) → (m next : ℕ) → (count k most field).read s at ≡ ok (m, next) → n ≡ m
count_told s k most field at told m next e = told m next (count_read k most field s at m next e)
