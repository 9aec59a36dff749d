-- Cells that are surely without a fault, and what a cell's two numbers are answered.
use Prim.Native.Nat.{ℕ, ◌+◌, ◌-◌, ◌*◌, ◌^◌, ◌<◌, ◌≤◌}
use mathlib.Core.Logic.{◌⊎◌, ⊎_elim, inl, inr}
use mathlib.Core.Path.{◌≡◌, sym, ap, ◌∙◌}
use mathlib.Core.Bool.{true, false}
use mathlib.Core.List.{List}
use mathlib.Core.Option.{Option, some, none}
use lib.ListN.{length, take, drop}
use borrow.Author.Tests.{eq-eqb, ne_eqb}
use Rattle.std.specs.Prelude.{Result}
use Rattle.format.specs.declared.Refusal.{Refusal}
use Rattle.format.specs.Format.{Verdict, fine}
use Rattle.format.specs.Value.{Value, fixed, body, is_column, is_counted, width_of, fixed_fine, t_string, t_varbinary, t_geography}
use Rattle.put.specs.Put.{sized}
use Rattle.put.proofs.Laws.{sized_null, sized_some}
use Rattle.steps.specs.State.{State}
use Rattle.steps.specs.Arguments.{is_number_of, value_fault}
use Rattle.write.specs.Shown.{shown_answer}
use Rattle.write.proofs.Bytes.{fault_column}
use Rattle.rows.specs.Asked.{cell_answer}
use Rattle.rows.proofs.Cells.{fixed_size, body_size, fixed_answer, body_answer}
use Rattle.whole.specs.Rows.{null_size, body_in, value_in, cell_step}
use Rattle.whole.specs.Asked.{asked, Sure}
use Rattle.whole.proofs.Values.{part_is, part_length, body_null, body_there, in_body, in_fixed}

null_fine : (p t : ℕ) → is_counted t ≡ true → value_fault p t (body none) ≡ fine
unfolding value_fault
null_fine p t c = rw c

-- the types of texts and binaries
pub is_body : (t : ℕ) → (t ≡ t_string) ⊎ ((t ≡ t_varbinary) ⊎ (t ≡ t_geography)) → is_counted t ≡ true
is_body t k = ⊎_elim (λ e. ap is_counted e) (λ w. ⊎_elim (λ e. ap is_counted e) (λ e. ap is_counted e) w) k

pub is_fixed : (t : ℕ) → ((t ≡ t_string) ⊎ ((t ≡ t_varbinary) ⊎ (t ≡ t_geography)) → ⊥) → is_counted t ≡ false
is_fixed t n = rw (ne_eqb t t_string (λ e. n (inl e)), ne_eqb t t_varbinary (λ e. n (inr (inl e))), ne_eqb t t_geography (λ e. n (inr (inr e))))

number_fine : (p t n : ℕ) → is_number_of t n ≡ true → fixed_fine t n ≡ true → value_fault p t (fixed n) ≡ fine
unfolding value_fault
number_fine p t n e f = rw (e, f)

module _ (bytes : List ℕ) (p t : ℕ) where
  pub sure_null : (start size : ℕ) → is_counted t ≡ true → size ≡ null_size → Sure bytes p t start size 4
  sure_null start size c e =
      let f = null_fine p t c in
      record { it = body none; is = in_body bytes t start size c ∙ body_null bytes start size (eq-eqb size null_size e); faultless = f; size = body_size p t none f ∙ sized_null }

  pub sure_there : (start size : ℕ) → is_counted t ≡ true → (size ≡ null_size → ⊥) → start + size ≤ length bytes
      → fine ≡ value_fault p t (body (some (take (start + size - start) (drop start bytes)))) → Sure bytes p t start size (4 + size)
  sure_there start size c e h v =
      let bs = take size (drop start bytes) in
      let f : value_fault p t (body (some bs)) ≡ fine = ap (λ (x : List ℕ). value_fault p t (body (some x))) (sym (part_is bytes start size)) ∙ sym v in
      record {
        it = body (some bs);
        is = in_body bytes t start size c ∙ body_there bytes start size (ne_eqb size null_size e) h;
        faultless = f;
        size = body_size p t (some bs) f ∙ (sized_some bs ∙ ap (λ (m : ℕ). 4 + m) (part_length bytes start size h));
      }

  pub sure_number : (a b : ℕ) {r : ℕ} → is_counted t ≡ false → (0 < r → (r ≡ width_of t) × (is_number_of t (a * 2 ^ 64 + b) ≡ true) × (fixed_fine t (a * 2 ^ 64 + b) ≡ true)) → 0 < r → Sure bytes p t a b r
  sure_number a b {r} c e h =
      let n = a * 2 ^ 64 + b in
      let w = e h in
      let f = number_fine p t n w.1 w.2 in
      record { it = fixed n; is = in_fixed bytes t a b c; faultless = f; size = fixed_size p t n f ∙ sym w.0 }

-- a cell that is sure is in a column
pub sure_column : {bytes : List ℕ} {p t a b r : ℕ} → Sure bytes p t a b r → is_column t ≡ true
sure_column {p} {t} s = fault_column p t s.it s.faultless

-- what the code asks of a cell is what its step asks
module _ (bytes : List ℕ) (st : State) (t room : ℕ) where
  pub asked_fixed : (a b : ℕ) {fault : Verdict} {k : ℕ} {r : Result ℕ Refusal} → is_counted t ≡ false → fault ≡ value_fault st.position t (fixed (a * 2 ^ 64 + b)) → k ≡ width_of t
      → r ≡ shown_answer (cell_answer st t fault k room) → r ≡ shown_answer (asked (cell_step t (value_in bytes t a b)) st room)
  asked_fixed a b c e l g =
      fixed_answer st room t (a * 2 ^ 64 + b) e l g ∙ ap (λ (v : Option Value). shown_answer (asked (cell_step t v) st room)) (sym (in_fixed bytes t a b c))

  pub asked_body : (a b : ℕ) {r : Result ℕ Refusal} → is_counted t ≡ true → r ≡ shown_answer (asked (cell_step t (body_in bytes a b)) st room) → r ≡ shown_answer (asked (cell_step t (value_in bytes t a b)) st room)
  asked_body a b c e = e ∙ ap (λ (v : Option Value). shown_answer (asked (cell_step t v) st room)) (sym (in_body bytes t a b c))

  pub asked_null : (start size : ℕ) {fault : Verdict} {r : Result ℕ Refusal} → size ≡ null_size → fault ≡ value_fault st.position t (body none)
      → r ≡ shown_answer (cell_answer st t fault 4 room) → r ≡ shown_answer (asked (cell_step t (body_in bytes start size)) st room)
  asked_null start size z e g =
      body_answer st room t none e (sym sized_null) g
      ∙ ap (λ (v : Option Value). shown_answer (asked (cell_step t v) st room)) (sym (body_null bytes start size (eq-eqb size null_size z)))

  pub asked_there : (start size : ℕ) {fault : Verdict} {r : Result ℕ Refusal} → (size ≡ null_size → ⊥) → start + size ≤ length bytes
      → fault ≡ value_fault st.position t (body (some (take (start + size - start) (drop start bytes)))) → r ≡ shown_answer (cell_answer st t fault (4 + size) room)
      → r ≡ shown_answer (asked (cell_step t (body_in bytes start size)) st room)
  asked_there start size z h e g =
      let bs = take size (drop start bytes) in
      let long : 4 + size ≡ length (sized (some bs)) = sym (sized_some bs ∙ ap (λ (m : ℕ). 4 + m) (part_length bytes start size h)) in
      body_answer st room t (some bs) (e ∙ ap (λ (x : List ℕ). value_fault st.position t (body (some x))) (part_is bytes start size)) long g
      ∙ ap (λ (v : Option Value). shown_answer (asked (cell_step t v) st room)) (sym (body_there bytes start size (ne_eqb size null_size z) h))
