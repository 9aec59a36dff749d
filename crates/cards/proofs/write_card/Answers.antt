-- `cards::write_card` meets its contract: the front is written, and the rest behind it. Assumes nothing.
use Rattle.cards.specs.Card.{a_card, front_bytes, rest_bytes, type_place, rest_size}
use Rattle.format.proofs.Numbers.{length-num_bytes}
use Rattle.put.proofs.Laws.{front_two}
use Rattle.cards.proofs.Forms.{rest_size_lem}
use native.Mathlib.Omega.{arith}
use Rattle.cards.proofs.write_card.Goals as goal

pub returns : goal.returns
returns c =
    let a = c.args in
    front_two a.out.now (front_bytes a.kind a.card.position) (rest_bytes (a_card a.card.position a.card.wire_type a.card.name.now)) _ _ (type_place a.kind) rest_size
    (omega (arith, length-num_bytes a.kind.width a.card.position)) (rest_size_lem (a_card a.card.position a.card.wire_type a.card.name.now) c.requires.1) c.requires.0
    c.write_front.ensures c.write_rest.ensures
