-- The bytes of values that have no fault, and how faults of texts are put together.
use Prim.Native.Nat.{ℕ, ◌≤◌, ◌<◌}
use mathlib.Core.Path.{◌≡◌, refl, sym, ap}
use mathlib.Core.Bool.{Bool, true, not}
use mathlib.Core.List.{List, [], ◌∷◌, ◌++◌}
use mathlib.Core.Option.{Option, some, none}
use lib.ListN.{length}
use lib.Dec.{leb, eqb}
use native.Mathlib.Omega.{arith}
use borrow.Author.Tests.{ne_eqb, le-leb, lt-leb, leb-true}
use Rattle.format.specs.declared.Fault.{Fault}
use Rattle.format.specs.declared.Fault.TheVariants.{Limit, Text}
use Rattle.format.specs.Number.{num_bytes}
use Rattle.format.specs.Format.{Verdict, fine, bad, number, ruled, into, both, nothing, counted}
use Rattle.format.specs.Text.{utf8_from, utf8}
use Rattle.std.specs.Option.{is_none}
use Rattle.text.specs.Shown.{shown_at}
use Rattle.text.proofs.Finds.{Finds, finds_texts}
use Rattle.format.specs.Value.{Value, fixed, body, value, string, width_of, is_counted, is_column, fixed_fine, anything, not_empty, rule_of, most_bytes, t_null, t_tinyint, t_array}
use Rattle.format.specs.Message.{one, array, bytes, items, argument, param}
use Rattle.put.specs.Put.{sized}
use Rattle.steps.specs.Plans.{also, test, placed}
use Rattle.steps.specs.Arguments.{text_fault, null_text_fault, is_number_of, value_fault}
use Rattle.steps.proofs.Back.{also_fine, test_fine, no_column, column_fixed, number_fits}

pub also_none : (v : Verdict) → also v fine ≡ v
also_none fine = refl
also_none (bad f p) = refl

-- a text that may have any bytes can only be too long
pub text_limit : (p : ℕ) (bs : List ℕ) → text_fault anything p bs ≡ test (leb (length bs) most_bytes) Limit p
text_limit p bs = also_none (test (leb (length bs) most_bytes) Limit p)

-- a text without a fault isn't too long, whatever its rule
pub text_few : (rule : List ℕ → Verdict) (p : ℕ) (bs : List ℕ) → text_fault rule p bs ≡ fine → length bs ≤ most_bytes
text_few rule p bs e = leb-true (length bs) most_bytes (test_fine (leb (length bs) most_bytes) Limit p (also_fine (test (leb (length bs) most_bytes) Limit p) (placed p (rule bs)) e).0)

-- bytes have a fault where one is found that breaks their rule
pub fault_found : {rule from : List ℕ → Verdict} {f : Fault} → Finds rule from f → (p : ℕ) (bs : List ℕ) → placed p (rule bs) ≡ test (is_none (shown_at (from bs))) f p
fault_found {rule} {from} {f} finds p bs = go (from bs) refl
  where
    go : (v : Verdict) → from bs ≡ v → placed p (rule bs) ≡ test (is_none (shown_at v)) f p
    go fine e = rw (finds.passes bs (ap shown_at e))
    go (bad g i) e = rw (finds.refuses bs i (ap shown_at e)).0

-- a text that isn't too long has one where it is torn
pub text_short : (p : ℕ) (bs : List ℕ) → length bs ≤ most_bytes → text_fault utf8 p bs ≡ test (is_none (shown_at (utf8_from 0 0 bs))) Text p
text_short p bs few = rw (le-leb (length bs) most_bytes few) (fault_found finds_texts p bs)

-- a text that is too long
module _ (p : ℕ) (bs : List ℕ) where
  pub text_long : most_bytes < length bs → text_fault utf8 p bs ≡ bad Limit p
  text_long h = rw (lt-leb (length bs) most_bytes h)

-- a geography's bytes are counted, and then that there are some
pub geography_fault : (p : ℕ) (bs : List ℕ) → text_fault not_empty p bs ≡ also (text_fault anything p bs) (placed p (not_empty bs))
geography_fault p bs = ap (λ (v : Verdict). also v (placed p (not_empty bs))) (sym (text_limit p bs))

pub empty_is : (p : ℕ) (bs : List ℕ) → placed p (not_empty bs) ≡ test (not (eqb (length bs) 0)) Rattle.format.specs.declared.Fault.TheVariants.Geography p
empty_is p [] = refl
empty_is p (b ∷ bs) = let n : length (b ∷ bs) ≡ 0 → ⊥ = λ e. omega arith in ap (λ (x : Bool). test (not x) Rattle.format.specs.declared.Fault.TheVariants.Geography p) (sym (ne_eqb (length (b ∷ bs)) 0 n))

text_bytes : (nullable : Bool) (rule : List ℕ → Verdict) (x y : ℕ) (b : Option (List ℕ)) → (string nullable rule x y).bytes b ≡ sized b
unfolding counted
text_bytes nullable rule x y none = refl
text_bytes nullable rule x y (some bs) = refl

-- values
pub fixed_bytes : (p x y t n : ℕ) → value_fault p t (fixed n) ≡ fine → (value x y t).bytes (fixed n) ≡ num_bytes (width_of t) n
unfolding value value_fault into ruled number
fixed_bytes p x y t n e =
    let a = also_fine (test (is_number_of t n) _ p) (test (fixed_fine t n) _ p) e in
    let c = column_fixed t (number_fits t n (test_fine _ _ p a.0)).0 in
    rw c.0

pub body_bytes_lem : (p x y t : ℕ) (b : Option (List ℕ)) → value_fault p t (body b) ≡ fine → (value x y t).bytes (body b) ≡ sized b
unfolding value value_fault into
body_bytes_lem p x y t b e =
    let a = also_fine (test (is_counted t) _ p) (null_text_fault (rule_of t) p b) e in
    let c = test_fine (is_counted t) _ p a.0 in
    rw c (text_bytes true (rule_of t) x y b)

-- a value without a fault is of a column's type
pub fault_column : (p t : ℕ) (v : Value) → value_fault p t v ≡ fine → is_column t ≡ true
unfolding value_fault
fault_column p t (fixed n) e = (column_fixed t (number_fits t n (test_fine _ _ p (also_fine (test (is_number_of t n) _ p) (test (fixed_fine t n) _ p) e).0)).0).1
fault_column p t (body b) e = let c = test_fine (is_counted t) _ p (also_fine (test (is_counted t) _ p) (null_text_fault (rule_of t) p b) e).0 in rw c

-- parameters
pub one_bytes : (p t : ℕ) (v : Value) → value_fault p t v ≡ fine → param.bytes (record { type = t; argument = one v }) ≡ num_bytes 1 t ++ (value 27 28 t).bytes v
unfolding param argument into both ruled number nothing
one_bytes p t v e =
    let c = fault_column p t v e in
    rw (no_column t t_null refl c, no_column t t_array refl c)

pub array_bytes : (bs : List ℕ) → param.bytes (record { type = t_array; argument = array t_tinyint (bytes (some bs)) }) ≡ num_bytes 1 t_array ++ (num_bytes 1 t_tinyint ++ sized (some bs))
unfolding param argument items into both ruled number nothing counted
array_bytes bs = refl
