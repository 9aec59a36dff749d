-- A shortcut card: its kinds, its form, its bytes, and which cards there are.
use native.Mathlib.Omega.{arith}
use Rattle.std.specs.Prelude.{ℕ, ◌+◌, ◌-◌, ◌≤◌, min, ◌≡◌, Bool, true, ◌&&◌, List, [], ◌∷◌, ◌++◌, length, get_or, take, drop, replicate, leb, ltb, eqb}
use Rattle.std.proofs.Math.Option.{Option, some, none}
use Rattle.format.specs.declared.Fault.TheVariants.{CardForm}
use Rattle.format.specs.Result.{Res, ok, no, pick}
use Rattle.format.specs.Number.{num_at, num_bytes}
use Rattle.format.specs.Value.{is_column}
use Rattle.cards.specs.declared.kind.Kind.{Kind}

-- a column, by its position, and what it was when the card was made
pub record Card : Type 0 where
  pub position : ℕ
  pub type : ℕ
  pub name : List ℕ

abbrev pub a_card : ℕ → ℕ → List ℕ → Card
a_card i t bs = record { position = i; type = t; name = bs }

-- the kinds of cards: the first byte of each, how many bytes its position has, and the first and the last position that it holds
abbrev pub near : Kind
near = record { number = 1; width = 1; low = 0; high = 63; narrow = omega arith }

abbrev pub far : Kind
far = record { number = 2; width = 2; low = 64; high = 1023; narrow = omega arith }

abbrev pub kinds : List Kind
kinds = near ∷ far ∷ []

abbrev pub holds : Kind → ℕ → Bool
holds k position = leb k.low position && leb position k.high

-- the kind of a position's card
abbrev pub kind_of : ℕ → Kind
kind_of position = pick (leb position near.high) near far

abbrev pub most_name : ℕ
most_name = 32

abbrev pub most_byte : ℕ
most_byte = 127

-- where the parts stand: after the kind the position, then the type, the name's length and the name
abbrev pub position_place : ℕ
position_place = 1

abbrev pub type_place : Kind → ℕ
type_place k = position_place + k.width

abbrev pub name_place : Kind → ℕ
name_place k = type_place k + 2

-- how many bytes it has from the type on, and in all; and the most that a card has
abbrev pub rest_size : ℕ
rest_size = 2 + most_name

abbrev pub card_size : Kind → ℕ
card_size k = type_place k + rest_size

abbrev pub most_size : ℕ
most_size = card_size far

-- whether byte k from the name's start is right: low in the name, and 0 after it
abbrev pub name_byte : ℕ → ℕ → ℕ → Bool
name_byte size k b = pick (ltb k size) (leb b most_byte) (eqb b 0)

-- the first of these bytes that is wrong; the first given is byte k
unfoldable pub wrong_from : ℕ → ℕ → List ℕ → Option ℕ
wrong_from size k [] = none
wrong_from size k (b ∷ bs) = pick (name_byte size k b) (wrong_from size (k + 1) bs) (some k)

abbrev pub unless : Option ℕ → ℕ → Card → Res Card
unless none at c = ok c
unless (some k) at c = no CardForm (at + k)

-- what the bytes from the type on say, each in turn, of a card with a position; the type stands at a place
unfoldable pub card_rest : ℕ → ℕ → List ℕ → Res Card
card_rest at position bs =
    let size = get_or bs 1 0 in
    pick (is_column (get_or bs 0 0))
    (pick (leb size most_name)
    (unless (wrong_from size 0 (drop 2 bs)) (at + 2) (a_card position (get_or bs 0 0) (take size (drop 2 bs))))
    (no CardForm (at + 1)))
    (no CardForm at)

-- what the bytes of a card of a kind say, its position first
abbrev pub position_in : Kind → List ℕ → ℕ
position_in k bs = num_at k.width bs position_place

unfoldable pub card_body : Kind → List ℕ → Res Card
card_body k bs = pick (holds k (position_in k bs)) (card_rest (type_place k) (position_in k bs) (drop (type_place k) bs)) (no CardForm position_place)

-- its size, and then the rest
abbrev pub sized : Kind → List ℕ → Res Card
sized k bs = pick (eqb (length bs) (card_size k)) (card_body k bs) (no CardForm (min (length bs) (card_size k)))

-- what the bytes of a card of one of these kinds say: the kind first
abbrev pub form_by : List Kind → List ℕ → Res Card
form_by [] bs = no CardForm 0
form_by (k ∷ ks) bs = pick (eqb (get_or bs 0 0) k.number) (sized k bs) (form_by ks bs)

unfoldable pub card_form : List ℕ → Res Card
card_form bs = form_by kinds bs

-- the bytes of a card: from its type on, before that in a kind, and all of them in a kind and in that of its position
abbrev pub rest_bytes : Card → List ℕ
rest_bytes c = c.type ∷ length c.name ∷ (c.name ++ replicate (most_name - length c.name) 0)

abbrev pub front_bytes : Kind → ℕ → List ℕ
front_bytes k position = k.number ∷ num_bytes k.width position

abbrev pub bytes_in : Kind → Card → List ℕ
bytes_in k c = front_bytes k c.position ++ rest_bytes c

abbrev pub card_bytes : Card → List ℕ
card_bytes c = bytes_in (kind_of c.position) c

-- the bytes of names
abbrev pub Low : List ℕ → Type 0
Low [] = Unit
Low (b ∷ bs) = (b ≤ most_byte) × Low bs

-- a card that can be made: the kind of its position holds it, and so on
pub record GoodCard (c : Card) : Type 0 where
  pub held : holds (kind_of c.position) c.position ≡ true
  pub column : is_column c.type ≡ true
  pub short : length c.name ≤ most_name
  pub low : Low c.name
