-- 10 is said of a card that doesn't fit, and of nothing else: no message, no form of a card and no table is refused so. So a reason is told exactly where opening
-- gives 10.
use Prim.Native.Nat.{ℕ}
use mathlib.Core.Path.{◌≡◌, refl, sym, ◌∙◌, ap}
use mathlib.Core.List.{List}
use mathlib.Core.Logic.{⊎_elim}
use mathlib.Core.Option.{Option, some}
use native.Mathlib.Omega.{arith}
use Rattle.format.specs.declared.Fault.{Fault}
use Rattle.format.specs.declared.Fault.TheVariants.{Stale, PastEnd, CardForm}
use Rattle.format.specs.Result.{ok, no, number_of}
use Rattle.format.specs.Message.{read_message}
use Rattle.places.specs.Places.{tables_of}
use Rattle.places.specs.Entries.{entry}
use Rattle.places.proofs.Lists.{entry_missing}
use Rattle.cards.specs.declared.Reason.{Reason}
use Rattle.cards.specs.Card.{card_form}
use Rattle.cards.specs.Answers.{ask_open}
use Rattle.cards.specs.Reasons.{ask_fit}
use Rattle.cards.proofs.Forms.{form_fault}
use Rattle.cards.proofs.Reasons.{refused→reason}
use Rattle.causes.specs.Causes.{Rightly}
use Rattle.causes.proofs.Rightly.{rightly_ok, rightly_bind}
use Rattle.causes.proofs.Messages.{message_rightly}

-- any other fault
abbrev Other : Fault → ℕ → Type 0
Other f p = f ≡ Stale → ⊥

other : (f : Fault) → (number_of f ≡ number_of Stale → ⊥) → f ≡ Stale → ⊥
other f n e = n (ap number_of e)

message_other : (m : List ℕ) → Rightly Other (read_message 4 m)
message_other m = record { holds = λ f p e is. (message_rightly 4 m).holds Stale p (e ∙ ap (λ (g : Fault). no g p) is) }

form_other : (bs : List ℕ) → Rightly Other (card_form bs)
form_other bs = record { holds = λ f p e is. other CardForm (λ z. omega arith) (sym (form_fault bs f p e) ∙ is) }

entry_other : {A : Type 0} (l : List A) (i : ℕ) → Rightly Other (entry l i)
entry_other l i = record { holds = λ f p e is. let same : f ≡ PastEnd = cc (entry_missing l i e) in other PastEnd (λ z. omega arith) (sym same ∙ is) }

module _ (m : List ℕ) (t : ℕ) (bs : List ℕ) where
  fit_other : Rightly Other (ask_fit m t bs)
  fit_other = rightly_bind (read_message 4 m) (message_other m) (λ r e. rightly_bind (card_form bs) (form_other bs) (λ c f. rightly_bind (entry (tables_of r) t) (entry_other (tables_of r) t) (λ b g. rightly_ok)))

  pub stale→reason : {p : ℕ} → ask_open m t bs ≡ no Stale p → (w : Reason × Option ℕ) × (ask_fit m t bs ≡ ok (some w))
  stale→reason {p} e = ⊎_elim (λ w. w) (λ no-reason. absurd (fit_other.holds Stale p no-reason refl)) (refused→reason m t bs e)
