-- `cards::put_card` meets its contract: the name is short and there is room, or nothing is written. Assumes nothing.
use mathlib.Core.Path.{sym, refl, ◌∙◌, ap}
use mathlib.Core.List.{◌++◌}
use lib.ListN.{length, drop}
use native.Mathlib.Omega.{arith}
use Rattle.cards.specs.declared.kind.Kind.{Kind}
use Rattle.cards.specs.Card.{a_card, card_size, bytes_in}
use Rattle.cards.proofs.Columns.{made_as, not_made, too_long, no_room, has_room}
use Rattle.cards.proofs.put_card.Goals as goal

pub returns-then-card-gt-MOST_NAME : goal.returns-then-card-gt-MOST_NAME
returns-then-card-gt-MOST_NAME c =
    let a = c.args in
    not_made (too_long a.place (a_card a.card.position a.card.wire_type a.card.name.now) (length a.out.now) c.if-card-gt-MOST_NAME.true)

pub returns-then-out-size : goal.returns-then-out-size
returns-then-out-size c =
    let a = c.args in
    let size = c.size_of-size.ensures ∙ ap card_size c.kind_of-kind.ensures in
    rw size (not_made (no_room a.place (a_card a.card.position a.card.wire_type a.card.name.now) (length a.out.now) c.if-card-gt-MOST_NAME.false (omega (arith, size, c.if-out-size.true))))

pub write_card-requires : goal.write_card-requires
write_card-requires c = (
  omega (arith, c.size_of-size.ensures, c.if-out-size.false),
  c.if-card-gt-MOST_NAME.false,
)

pub returns : goal.returns
returns c =
    let a = c.args in
    let card = a_card a.card.position a.card.wire_type a.card.name.now in
    let kind = c.kind_of-kind.ensures in
    let size = c.size_of-size.ensures ∙ ap card_size kind in
    made_as (sym (has_room a.place card (length a.out.now) c.if-card-gt-MOST_NAME.false (omega (arith, size, c.if-out-size.false))))
    (record { answer = refl; buffer = c.write_card.ensures ∙ ap (λ (k : Kind). bytes_in k card ++ drop (card_size k) a.out.now) kind })
