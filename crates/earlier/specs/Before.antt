-- What was accepted, opened and made while a table could have 64 columns and there was one kind of card: the same definitions, with that limit and that kind.
use Rattle.std.specs.Prelude.{ℕ, Bool, true, List, [], ◌∷◌}
use Rattle.format.specs.Result.{Res, bind}
use Rattle.format.specs.Format.{Format, into}
use Rattle.format.specs.Message.{metadata_of, Table, table_of, response_of, a_response, the_response, response_layout, newest, Message, message_of, read_whole}
use Rattle.places.specs.Places.{tables_of, table_at}
use Rattle.places.specs.Entries.{entry}
use Rattle.cards.specs.Card.{Card, near, form_by}
use Rattle.cards.specs.Answers.{opened, card_of}

abbrev pub most_before : ℕ
most_before = 64

abbrev pub table_before : Format Table
table_before = table_of (metadata_of most_before)

-- a response, with its round trip or without
abbrev pub response_before : Bool → Format Message
response_before timed = message_of (newest (response_layout timed)) (λ version. into a_response the_response (response_of table_before timed))

abbrev pub read_before : Bool → List ℕ → Res Message
read_before timed m = read_whole (response_before timed) m

abbrev pub form_before : List ℕ → Res Card
form_before bs = form_by (near ∷ []) bs

abbrev pub open_before : List ℕ → ℕ → List ℕ → Res ℕ
open_before m t bs = bind (read_before true m) (λ r. bind (form_before bs) (λ c. bind (entry (tables_of r) t) (λ b. opened b c)))

abbrev pub card_before : List ℕ → ℕ → List ℕ → Res Card
card_before m t name = bind (read_before true m) (λ r. bind (entry (tables_of r) t) (λ b. card_of (table_at true r t) b name))
