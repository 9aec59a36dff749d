-- Whether a card fits a table, and if not why: the first of three facts that holds; and where a column of the card's type and name stands now.
use Rattle.std.specs.Prelude.{ℕ, zero, suc, ◌+◌, ◌≤◌, ◌≡◌, Bool, false, not, List, [], ◌∷◌, length, leb, eqb, Result, Ok, Err, Option as Maybe, Some, None}
use Rattle.std.proofs.Math.Option.{Option, some, none}
use Rattle.format.specs.declared.Refusal.{Refusal}
use Rattle.format.specs.Result.{Res, ok, no, pick}
use Rattle.format.specs.Message.{Table}
use Rattle.places.specs.Entries.{entry}
use Rattle.query.specs.Answers.{is_named}
use Rattle.cards.specs.declared.Reason.{Reason}
use Rattle.cards.specs.declared.Fit.{Fit}
use Rattle.cards.specs.Card.{Card, a_card}
use Rattle.cards.specs.Answers.{fits, of_card}

-- the reasons, numbered in the order in which they are asked for
abbrev pub reason_number : Reason → ℕ
reason_number Reason.Past = 1
reason_number Reason.OtherType = 2
reason_number Reason.OtherName = 3

-- the fact that each says of the column at the card's position: there is none, its type isn't the card's, its name isn't
abbrev pub Fact : Table → Card → Reason → Type 0
Fact b c Reason.Past = length b.metadata.types ≤ c.position
Fact b c Reason.OtherType = entry b.metadata.types c.position ≡ ok c.type → ⊥
Fact b c Reason.OtherName = entry b.metadata.names c.position ≡ ok (some c.name) → ⊥

-- the same as tests
abbrev pub is_type : ℕ → Res ℕ → Bool
is_type type (ok t) = eqb t type
is_type type (no f p) = false

abbrev pub is_name : List ℕ → Res (Option (List ℕ)) → Bool
is_name name (ok n) = is_named name n
is_name name (no f p) = false

abbrev pub fact_holds : Table → Card → Reason → Bool
fact_holds b c Reason.Past = leb (length b.metadata.types) c.position
fact_holds b c Reason.OtherType = not (is_type c.type (entry b.metadata.types c.position))
fact_holds b c Reason.OtherName = not (is_name c.name (entry b.metadata.names c.position))

-- the first whose fact holds; the order is that of the numbers
abbrev pub reasons : List Reason
reasons = Reason.Past ∷ Reason.OtherType ∷ Reason.OtherName ∷ []

abbrev pub first_of : (Reason → Bool) → List Reason → Option Reason
first_of test [] = none
first_of test (r ∷ rs) = pick (test r) (some r) (first_of test rs)

unfoldable pub reason_of : Table → Card → Option Reason
reason_of b c = first_of (fact_holds b c) reasons

-- the first number that passes a test, of so many from i on
unfoldable pub first_from : (ℕ → Bool) → ℕ → ℕ → Option ℕ
first_from test i zero = none
first_from test i (suc n) = pick (test i) (some i) (first_from test (i + 1) n)

-- the first position whose card of a type and name would fit, which is where the first such column stands
unfoldable pub stands_at : Table → ℕ → List ℕ → Option ℕ
stands_at b type name = first_from (λ i. fits b (a_card i type name)) 0 (length b.metadata.types)

-- that a card fits is told by no reason; else where such a column stands is told beside it
abbrev pub why_not : Option Reason → Option ℕ → Option (Reason × Option ℕ)
why_not none i = none
why_not (some r) i = some (r, i)

abbrev pub fit_of : Table → Card → Option (Reason × Option ℕ)
fit_of b c = why_not (reason_of b c) (stands_at b c.type c.name)

-- how a card fits table t: the message's own refusal, the card's form, the table, and then what is told
abbrev pub ask_fit : List ℕ → ℕ → List ℕ → Res (Option (Reason × Option ℕ))
ask_fit m t bs = of_card m t bs (λ b c. ok (fit_of b c))

-- what an answer says
abbrev pub told_place : Maybe ℕ → Option ℕ
told_place (Some i) = some i
told_place None = none

abbrev pub fit_told : Fit → Option (Reason × Option ℕ)
fit_told Fit.Fits = none
fit_told (Fit.Stale r i) = some (r, told_place i)

abbrev pub told_fit : Result Fit Refusal → Res (Option (Reason × Option ℕ))
told_fit (Ok f) = ok (fit_told f)
told_fit (Err r) = no r.fault r.place
