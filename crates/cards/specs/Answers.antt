-- What making and opening a card are answered with.
use Rattle.format.specs.declared.Refusal.{Refusal}
use Rattle.std.specs.Prelude.{ℕ, ◌≡◌, Bool, true, false, ◌&&◌, List, ◌++◌, length, drop, leb, eqb, Result}
use Rattle.std.proofs.Math.Option.{Option}
use Rattle.format.specs.declared.Fault.TheVariants.{Limit, Output, Stale}
use Rattle.format.specs.Result.{Res, ok, no, bind, pick, told}
use Rattle.format.specs.Message.{Table, read_message}
use Rattle.places.specs.Places.{tables_of, name_at}
use Rattle.places.specs.Entries.{entry}
use Rattle.query.specs.Answers.{of_table, is_named, first_named}
use Rattle.cards.specs.Card.{Card, a_card, kind_of, card_form, card_bytes, card_size, most_name}

-- whether a column's type and name are the card's
abbrev pub fitting : Res ℕ → Res (Option (List ℕ)) → Card → Bool
fitting (ok t) (ok n) c = eqb t c.type && is_named c.name n
fitting (ok t) (no f p) c = false
fitting (no f p) n c = false

-- whether a card fits a table: the column at its position is there, and has its type and name
unfoldable pub fits : Table → Card → Bool
fits b c = fitting (entry b.metadata.types c.position) (entry b.metadata.names c.position) c

abbrev pub opened : Table → Card → Res ℕ
opened b c = pick (fits b c) (ok c.position) (no Stale 0)

module _ {A : Type 0} where
  -- what is asked of table t and a card: after the message's own refusal, the card's form and the table
  abbrev pub of_card : List ℕ → ℕ → List ℕ → (Table → Card → Res A) → Res A
  of_card m t bs ask = bind (read_message 4 m) (λ r. bind (card_form bs) (λ c. bind (entry (tables_of r) t) (λ b. ask b c)))

-- opening it: whether they fit
abbrev pub ask_open : List ℕ → ℕ → List ℕ → Res ℕ
ask_open m t bs = of_card m t bs opened

-- a card whose name is too long is refused at that name's length in the message, and then one that has no room
abbrev pub short_named : ℕ → Card → Res Card
short_named place c = pick (leb (length c.name) most_name) (ok c) (no Limit place)

abbrev pub size_of : Card → ℕ
size_of c = card_size (kind_of c.position)

abbrev pub room_for : ℕ → Card → Res Card
room_for room c = pick (leb (size_of c) room) (ok c) (no Output (size_of c))

-- the card of the first column of a name
abbrev pub card_of : ℕ → Table → List ℕ → Res Card
card_of at b name = bind (first_named name b.metadata.names 0) (λ i. bind (entry b.metadata.types i) (λ t. short_named (name_at at b.metadata i) (a_card i t name)))

abbrev pub ask_card : List ℕ → ℕ → List ℕ → Res Card
ask_card m t name = of_table true m t (λ at b. card_of at b name)

-- making it in a buffer of so many bytes
abbrev pub ask_made : List ℕ → ℕ → List ℕ → ℕ → Res Card
ask_made m t name room = bind (ask_card m t name) (room_for room)

-- what the buffer then is: the card in front and the rest as it was, or all as it was
abbrev pub written : Res Card → List ℕ → List ℕ
written (ok c) out = card_bytes c ++ drop (size_of c) out
written (no f p) out = out

-- a card, or the refusal of one, as it is answered (by the column's position) and written
pub record Made (r : Res Card) (x : Result ℕ Refusal) (before after : List ℕ) : Type 0 where
  pub answer : told x ≡ bind r (λ c. ok c.position)
  pub buffer : after ≡ written r before
