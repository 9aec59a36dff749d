-- Cards at the ends of both kinds, and on the other side of them; and how cards of both kinds fit two tables. All by computing.
use Rattle.std.specs.Prelude.{ℕ, ◌≡◌, refl, List, [], ◌∷◌, ◌++◌, map, replicate, take}
use Rattle.std.proofs.Math.Option.{some, none}
use Rattle.format.specs.declared.Fault.TheVariants.{CardForm}
use Rattle.format.specs.Result.{ok, no}
use Rattle.format.specs.Number.{num_at, num_bytes}
use Rattle.format.specs.Message.{Table}
use Rattle.query.specs.Answers.{same}
use Rattle.cards.specs.declared.Reason.{Reason}
use Rattle.cards.specs.Card.{Card, a_card, near, far, wrong_from, card_rest, card_body, card_form, bytes_in, card_bytes}
use Rattle.cards.specs.Answers.{fits}
use Rattle.cards.specs.Reasons.{reason_of, first_from, stands_at, fit_of}

-- the bigint TE at a position
abbrev card : ℕ → Card
card i = a_card i 6 (84 ∷ 69 ∷ [])

-- its bytes: the high byte of a position comes first
pub bytes_right : map card_bytes (card 63 ∷ card 258 ∷ []) ≡ (1 ∷ 63 ∷ 6 ∷ 2 ∷ 84 ∷ 69 ∷ replicate 30 0) ∷ (2 ∷ 1 ∷ 2 ∷ 6 ∷ 2 ∷ 84 ∷ 69 ∷ replicate 30 0) ∷ []
unfolding num_bytes
bytes_right = refl

-- each position in its kind; then in the other one, and past the last; then a far card that has a near one's size, an empty card, and one of no kind
abbrev cases : List (List ℕ)
cases =
    card_bytes (card 0) ∷ card_bytes (card 63) ∷ card_bytes (card 64) ∷ card_bytes (card 1023)
    ∷ bytes_in near (card 64) ∷ bytes_in far (card 63) ∷ bytes_in far (card 1024)
    ∷ take 36 (card_bytes (card 64)) ∷ [] ∷ (3 ∷ []) ∷ []

pub forms_right : map card_form cases ≡ ok (card 0) ∷ ok (card 63) ∷ ok (card 64) ∷ ok (card 1023) ∷ no CardForm 1 ∷ no CardForm 1 ∷ no CardForm 1 ∷ no CardForm 36 ∷ no CardForm 0 ∷ no CardForm 0 ∷ []
unfolding card_form card_body card_rest wrong_from num_at num_bytes
forms_right = refl

-- columns by their types and names of one letter
abbrev of_columns : List (ℕ × ℕ) → Table
of_columns cs = record { metadata = record { status = 0; types = map (λ c. c.0) cs; names = map (λ c. some (c.1 ∷ [])) cs }; rows = [] }

-- an integer A, a decimal L, a bigint L and the decimal L once more; and a decimal L behind 64 integers A
abbrev few : Table
few = of_columns ((5, 65) ∷ (22, 76) ∷ (6, 76) ∷ (22, 76) ∷ [])

abbrev many : Table
many = of_columns (replicate 64 (5, 65) ++ ((22, 76) ∷ []))

-- in `few` a card that fits, though the same stands before it; one past the end whose type and name stand there, and one whose don't; another type; both
-- another type and another name; another name; and a far card, past the end
pub few_right : map (fit_of few) (a_card 3 22 (76 ∷ []) ∷ a_card 4 22 (76 ∷ []) ∷ a_card 4 9 (76 ∷ []) ∷ a_card 2 22 (76 ∷ []) ∷ a_card 0 22 (76 ∷ []) ∷ a_card 0 5 (76 ∷ []) ∷ a_card 64 6 (76 ∷ []) ∷ [])
    ≡ none ∷ some (Reason.Past, some 1) ∷ some (Reason.Past, none) ∷ some (Reason.OtherType, some 1) ∷ some (Reason.OtherType, some 1) ∷ some (Reason.OtherName, none) ∷ some (Reason.Past, some 2) ∷ []
unfolding reason_of stands_at first_from fits same
few_right = refl

-- in `many` a far card that fits; one of another type and one of another name, whose columns stand among the near ones or nowhere; and a near one whose column
-- stands among the far ones
pub many_right : map (fit_of many) (a_card 64 22 (76 ∷ []) ∷ a_card 64 5 (65 ∷ []) ∷ a_card 64 22 (65 ∷ []) ∷ a_card 3 22 (76 ∷ []) ∷ [])
    ≡ none ∷ some (Reason.OtherType, some 0) ∷ some (Reason.OtherName, none) ∷ some (Reason.OtherType, some 64) ∷ []
unfolding reason_of stands_at first_from fits same
many_right = refl
