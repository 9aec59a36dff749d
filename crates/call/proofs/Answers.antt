-- What the tests of each step give is what its plan asks.
use Prim.Native.Nat.{ℕ, ◌+◌}
use mathlib.Core.Path.{◌≡◌, refl, sym, ap, ◌∙◌}
use mathlib.Core.Bool.{Bool, true, false}
use mathlib.Core.List.{List, [], ◌++◌}
use mathlib.Core.Option.{Option, some}
use native.Mathlib.Omega.{arith}
use lib.ListN.{length, length-append}
use lib.Dec.{leb, eqb}
use borrow.Author.Tests.{not-true}
use Rattle.std.specs.Prelude.{Result}
use Rattle.format.specs.declared.Refusal.{Refusal}
use Rattle.format.specs.declared.Fault.TheVariants.{WireType}
use Rattle.format.specs.Format.{Verdict, fine}
use Rattle.format.specs.Number.{num_bytes}
use Rattle.format.specs.Value.{fixed, body, width_of, is_column, anything, t_array, t_tinyint}
use Rattle.format.specs.Message.{one, array, bytes, values, param, most_items}
use Rattle.put.specs.Put.{sized}
use Rattle.format.proofs.Numbers.{length-num_bytes}
use Rattle.format.proofs.Results.{and_true_both}
use Rattle.steps.specs.declared.Stage.TheVariants.{Call, Array}
use Rattle.steps.specs.State.{State, is_element, at_stage}
use Rattle.steps.specs.Plans.{answer_of, also, test}
use Rattle.steps.specs.Arguments.{text_fault, value_fault}
use Rattle.steps.specs.Steps.{answer_at, plan, null_param, one_param, bytes_param, open_array, element, close_array, finish_call}
use Rattle.write.specs.Shown.{shown_answer}
use Rattle.steps.proofs.Params.{open_bytes}
use Rattle.write.proofs.Bytes.{one_bytes, fixed_bytes, body_bytes_lem, array_bytes}
use Rattle.steps.proofs.Back.{also_fine, test_fine}
use Rattle.write.proofs.Taken.{answered}
use Rattle.call.proofs.Written.{null_bytes}

-- an element's type is not tinyint
pub not_tiny : (t : ℕ) → is_element t ≡ true → eqb t t_tinyint ≡ false
not_tiny t e = not-true (eqb t t_tinyint) (and_true_both (is_column t) _ e).1

pub open_size : (t : ℕ) → is_element t ≡ true → length (param.bytes (record { type = t_array; argument = array t (values []) })) ≡ 4
open_size t e = rw (open_bytes t (not_tiny t e)) (simp (length-append, length-num_bytes))

module _ (st : State) (size : ℕ) {permitted more : Bool} {a : Result ℕ Refusal} where
  pub null_answer : permitted ≡ at_stage Call st size → more ≡ leb (st.count + 1) most_items → a ≡ shown_answer (answer_at permitted fine more st.position 1 size)
      → a ≡ shown_answer (answer_of (plan null_param st size) size)
  null_answer e f g = answered (plan null_param st size) size g e refl (λ u w. (f, sym (ap length null_bytes ∙ length-num_bytes 1 1)))

  pub open_answer : (t : ℕ) {v : Verdict} → permitted ≡ at_stage Call st size → v ≡ test (is_element t) WireType st.position → more ≡ leb (st.count + 1) most_items
      → a ≡ shown_answer (answer_at permitted v more st.position 4 size) → a ≡ shown_answer (answer_of (plan (open_array t) st size) size)
  open_answer t e v f g = answered (plan (open_array t) st size) size g e v (λ u w. (f, sym (open_size t (test_fine (is_element t) _ st.position w))))

module _ (st : State) (size : ℕ) {permitted : Bool} {a : Result ℕ Refusal} where
  pub close_answer : permitted ≡ at_stage Array st size → a ≡ shown_answer (answer_at permitted fine true st.position 0 size) → a ≡ shown_answer (answer_of (plan close_array st size) size)
  close_answer e g = answered (plan close_array st size) size g e refl (λ u w. (refl, refl))

  pub finish_answer : permitted ≡ at_stage Call st size → a ≡ shown_answer (answer_at permitted fine true st.position 0 size) → a ≡ shown_answer (answer_of (plan finish_call st size) size)
  finish_answer e g = answered (plan finish_call st size) size g e refl (λ u w. (refl, refl))

-- a parameter's size, its type's byte with it
pub fixed_size : (p t n : ℕ) → value_fault p t (fixed n) ≡ fine → length (param.bytes (record { type = t; argument = one (fixed n) })) ≡ 1 + width_of t
fixed_size p t n e = rw (one_bytes p t (fixed n) e, fixed_bytes p 27 28 t n e, length-append, length-num_bytes 1 t, length-num_bytes (width_of t) n)

pub body_size : (p t : ℕ) (b : Option (List ℕ)) → value_fault p t (body b) ≡ fine → length (param.bytes (record { type = t; argument = one (body b) })) ≡ 1 + length (sized b)
body_size p t b e = rw (one_bytes p t (body b) e, body_bytes_lem p 27 28 t b e, length-append, length-num_bytes 1 t)

pub array_size : (bs : List ℕ) → length (param.bytes (record { type = t_array; argument = array t_tinyint (bytes (some bs)) })) ≡ 2 + length (sized (some bs))
array_size bs =
    let a = length-append (num_bytes 1 t_array) (num_bytes 1 t_tinyint ++ sized (some bs)) in
    let b = length-append (num_bytes 1 t_tinyint) (sized (some bs)) in
    omega (arith, ap length (array_bytes bs), length-num_bytes 1 t_array, length-num_bytes 1 t_tinyint)

module _ (st : State) (size : ℕ) {permitted more : Bool} {v : Verdict} {k : ℕ} {a : Result ℕ Refusal} where
  pub fixed_answer : (t n : ℕ) → permitted ≡ at_stage Call st size → v ≡ value_fault st.position t (fixed n) → more ≡ leb (st.count + 1) most_items → k ≡ width_of t
      → a ≡ shown_answer (answer_at permitted v more st.position (1 + k) size) → a ≡ shown_answer (answer_of (plan (one_param t (fixed n)) st size) size)
  fixed_answer t n e h f j g = answered (plan (one_param t (fixed n)) st size) size g e h (λ u w. (f, ap (λ (i : ℕ). 1 + i) j ∙ sym (fixed_size st.position t n w)))

  pub body_answer : (t : ℕ) (b : Option (List ℕ)) → permitted ≡ at_stage Call st size → v ≡ value_fault st.position t (body b) → more ≡ leb (st.count + 1) most_items → k ≡ length (sized b)
      → a ≡ shown_answer (answer_at permitted v more st.position (1 + k) size) → a ≡ shown_answer (answer_of (plan (one_param t (body b)) st size) size)
  body_answer t b e h f j g = answered (plan (one_param t (body b)) st size) size g e h (λ u w. (f, ap (λ (i : ℕ). 1 + i) j ∙ sym (body_size st.position t b w)))

  pub bytes_answer : (bs : List ℕ) → permitted ≡ at_stage Call st size → v ≡ text_fault anything st.position bs → more ≡ leb (st.count + 1) most_items → k ≡ length (sized (some bs))
      → a ≡ shown_answer (answer_at permitted v more st.position (2 + k) size) → a ≡ shown_answer (answer_of (plan (bytes_param bs) st size) size)
  bytes_answer bs e h f j g = answered (plan (bytes_param bs) st size) size g e h (λ u w. (f, ap (λ (i : ℕ). 2 + i) j ∙ sym (array_size bs)))

  pub element_fixed : (t n : ℕ) → permitted ≡ at_stage Array st size → v ≡ also (test (eqb t st.inner.type) WireType st.position) (value_fault st.position t (fixed n))
      → more ≡ leb (st.inner.count + 1) most_items → k ≡ width_of t → a ≡ shown_answer (answer_at permitted v more st.position k size) → a ≡ shown_answer (answer_of (plan (element t (fixed n)) st size) size)
  element_fixed t n e h f j g =
      answered (plan (element t (fixed n)) st size) size g e h
      (λ u w. (f, j ∙ sym (ap length (fixed_bytes st.position 27 28 t n (also_fine (test (eqb t st.inner.type) WireType st.position) _ w).1) ∙ length-num_bytes (width_of t) n)))

  pub element_body : (t : ℕ) (b : Option (List ℕ)) → permitted ≡ at_stage Array st size → v ≡ also (test (eqb t st.inner.type) WireType st.position) (value_fault st.position t (body b))
      → more ≡ leb (st.inner.count + 1) most_items → k ≡ length (sized b) → a ≡ shown_answer (answer_at permitted v more st.position k size) → a ≡ shown_answer (answer_of (plan (element t (body b)) st size) size)
  element_body t b e h f j g =
      answered (plan (element t (body b)) st size) size g e h
      (λ u w. (f, j ∙ sym (ap length (body_bytes_lem st.position 27 28 t b (also_fine (test (eqb t st.inner.type) WireType st.position) _ w).1))))
