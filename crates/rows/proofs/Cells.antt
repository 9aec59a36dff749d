-- A cell's tests are those of its plan, and what a cell that is taken has passed.
use Prim.Native.Nat.{ℕ, zero, suc, ◌+◌, ◌<◌, ◌≤◌}
use native.Mathlib.Omega.{arith}
use mathlib.Core.Path.{◌≡◌, refl, sym, ap, ◌∙◌}
use mathlib.Core.Bool.{Bool, true, false}
use mathlib.Core.List.{List, [], ◌∷◌}
use mathlib.Core.Option.{Option}
use lib.ListN.{length, take, get_or, length-take, get_or-eq_default}
use lib.Seq.{get_or-take}
use lib.Dec.{leb, eqb}
use borrow.Author.Tests.{leb-true, ltb-true, le-leb, lt-leb}
use Rattle.std.specs.Prelude.{Result}
use Rattle.format.specs.declared.Refusal.{Refusal}
use Rattle.format.specs.declared.Fault.TheVariants.{WireType}
use Rattle.format.specs.Result.{pick}
use Rattle.format.specs.Format.{Verdict, fine}
use Rattle.format.specs.Value.{Value, fixed, body, value, width_of}
use Rattle.format.specs.Message.{most_columns, most_row}
use Rattle.format.proofs.Numbers.{length-num_bytes}
use Rattle.format.proofs.Results.{and_true_both}
use Rattle.put.specs.Put.{sized}
use Rattle.steps.specs.declared.Stage.TheVariants.{Row}
use Rattle.write.specs.declared.State.{State as Code}
use Rattle.steps.specs.State.{State, at_stage}
use Rattle.steps.specs.Plans.{answer_of, also, test}
use Rattle.steps.specs.Arguments.{value_fault}
use Rattle.steps.specs.Steps.{plan, cell}
use Rattle.write.specs.Shown.{seen, types_in, shown_answer}
use Rattle.steps.proofs.Plans.{Accepted}
use Rattle.steps.proofs.Back.{also_fine}
use Rattle.write.proofs.Bytes.{fixed_bytes, body_bytes_lem}
use Rattle.write.proofs.Taken.{answered}
use Rattle.rows.specs.Asked.{cell_answer}

-- the answer is the plan's, if the value's fault is, and its size where it has no fault
cell_answer_lem : (st : State) (size t : ℕ) (v : Value) {fault : Verdict} {k : ℕ} {a : Result ℕ Refusal} → fault ≡ value_fault st.position t v
    → (value_fault st.position t v ≡ fine → k ≡ length ((value 50 51 t).bytes v)) → a ≡ shown_answer (cell_answer st t fault k size) → a ≡ shown_answer (answer_of (plan (cell t v) st size) size)
cell_answer_lem st size t v {fault} {k} e l g =
    let kind = test (eqb t (get_or st.outer.types st.inner.count 0)) WireType st.position in
    answered (plan (cell t v) st size) size g refl (ap (also kind) e)
    (λ u w. let n = l (also_fine kind (value_fault st.position t v) w).1 in (ap (λ (m : ℕ). leb (st.position + m) (st.inner.at + 4 + most_row)) n, n))

-- how many bytes a cell with no fault has
pub fixed_size : (p t n : ℕ) → value_fault p t (fixed n) ≡ fine → length ((value 50 51 t).bytes (fixed n)) ≡ width_of t
fixed_size p t n e = ap length (fixed_bytes p 50 51 t n e) ∙ length-num_bytes (width_of t) n

pub body_size : (p t : ℕ) (b : Option (List ℕ)) → value_fault p t (body b) ≡ fine → length ((value 50 51 t).bytes (body b)) ≡ length (sized b)
body_size p t b e = ap length (body_bytes_lem p 50 51 t b e)

pub fixed_answer : (st : State) (size t n : ℕ) {fault : Verdict} {k : ℕ} {a : Result ℕ Refusal} → fault ≡ value_fault st.position t (fixed n) → k ≡ width_of t
    → a ≡ shown_answer (cell_answer st t fault k size) → a ≡ shown_answer (answer_of (plan (cell t (fixed n)) st size) size)
fixed_answer st size t n e l g = cell_answer_lem st size t (fixed n) e (λ f. l ∙ sym (fixed_size st.position t n f)) g

pub body_answer : (st : State) (size t : ℕ) (b : Option (List ℕ)) {fault : Verdict} {k : ℕ} {a : Result ℕ Refusal} → fault ≡ value_fault st.position t (body b) → k ≡ length (sized b)
    → a ≡ shown_answer (cell_answer st t fault k size) → a ≡ shown_answer (answer_of (plan (cell t (body b)) st size) size)
body_answer st size t b e l g = cell_answer_lem st size t (body b) e (λ f. l ∙ sym (body_size st.position t b f)) g

-- at most so many columns are seen
few_columns : (n : ℕ) (types : List ℕ) → length (types_in n types) ≤ most_columns
few_columns n types = go (leb n most_columns) refl
  where
    go : (t : Bool) → leb n most_columns ≡ t → length (pick t (take n types) (0 ∷ [])) ≤ most_columns
    go true e = let h : n ≤ most_columns = leb-true n most_columns e in omega (arith, length-take n types)
    go false e = omega arith

-- a cell that is taken has a column, and a value with no fault
pub cell_counts : (st : Code) (types : List ℕ) (size t : ℕ) (v : Value) {n : ℕ} → Accepted (plan (cell t v) (seen st types) size) size n → st.inner_count + 1 ≤ most_columns
cell_counts st types size t v a =
    let h = ltb-true st.inner_count (length (types_in st.columns types)) (and_true_both (at_stage Row (seen st types) size) _ a.fine.permitted).1 in
    let f = few_columns st.columns types in
    omega arith

pub cell_fine : (st : State) (size t : ℕ) (v : Value) {n : ℕ} → Accepted (plan (cell t v) st size) size n → value_fault st.position t v ≡ fine
cell_fine st size t v a = (also_fine (test (eqb t (get_or st.outer.types st.inner.count 0)) WireType st.position) (value_fault st.position t v) a.fine.faultless).1

-- the type of the next column, of n: 0 where too many are seen, or no more
module _ (n : ℕ) (types : List ℕ) (i : ℕ) where
  pub none_seen : most_columns < n → get_or (types_in n types) i 0 ≡ 0
  none_seen h = rw (lt-leb n most_columns h) (go i)
    where
      go : (i : ℕ) → ◌≡◌ {A = ℕ} (get_or (0 ∷ []) i 0) 0
      go zero = refl
      go (suc i) = refl

  pub none_left : n ≤ most_columns → n ≤ i → get_or (types_in n types) i 0 ≡ 0
  none_left h l = rw (le-leb n most_columns h) (get_or-eq_default (take n types) 0 (omega (arith, length-take n types)))

  pub next_is : n ≤ most_columns → i < n → get_or (types_in n types) i 0 ≡ get_or types i 0
  next_is h l = rw (le-leb n most_columns h) (get_or-take n types i 0 l)
