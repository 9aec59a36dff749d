-- What the code answers on its way: nothing here is promised to a caller.
use Rattle.std.specs.Prelude.{ℕ, ◌≡◌, List, length, Result, Ok, Err, Option as Maybe, Some, None}
use Rattle.std.proofs.Math.Option.{Option, some, none}
use Rattle.format.specs.declared.Refusal.{Refusal}
use Rattle.format.specs.Result.{Res, ok, no}
use Rattle.format.specs.Message.{Message, Table, table}
use Rattle.scan.specs.Shown.{refusal}
use Rattle.places.specs.Stands.{Stands}
use Rattle.query.specs.declared.TableLayout.{TableLayout}
use Rattle.query.specs.Answers.{layout_of}
use Rattle.cards.specs.declared.Card.{Card as Said}
use Rattle.cards.specs.Card.{Card, a_card}

-- a card that was read
abbrev pub said : Said → Card
said c = a_card c.position c.wire_type c.name.now

abbrev pub shown_wrong : Option ℕ → Maybe ℕ
shown_wrong none = None
shown_wrong (some k) = Some k

-- a card by its position, its type and its name's length; the name stands in the card
abbrev pub shown_form : Res Card → Result (ℕ × ℕ × ℕ) Refusal
shown_form (ok c) = Ok (c.position, c.type, length c.name)
shown_form (no f p) = Err (refusal f p)

-- the refusal of a message comes before another one
abbrev pub own_before : Res Message → Refusal → Refusal
own_before (ok p) x = x
own_before (no f p) x = refusal f p

-- a layout is that of a table, which stands in the message
pub record Laid (m : List ℕ) (l : TableLayout) : Type 0 where
  pub at : ℕ
  pub tab : Table
  pub stands : Stands table m at tab
  pub is : l ≡ layout_of at tab
