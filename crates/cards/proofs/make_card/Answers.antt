-- `cards::make_card` meets its contract: no such column, or the card of the one that was found. Assumes nothing.
use Rattle.format.proofs.Results.{handed_on}
use mathlib.Core.Path.{◌∙◌, sym, ap}
use native.Mathlib.Omega.{arith}
use lib.ListN.{length}
use Rattle.format.specs.Result.{Res, bind, told}
use Rattle.query.proofs.Opened.{bytes_all}
use Rattle.cards.specs.Card.{Card}
use Rattle.cards.specs.Answers.{room_for}
use Rattle.cards.proofs.Columns.{no_card, carded, made_as, not_made}
use Rattle.cards.proofs.make_card.Goals as goal

pub returns-in_err-position : goal.returns-in_err-position
returns-in_err-position c =
    let a = c.args in
    rw (handed_on c.from_residual.ensures) (not_made (ap (λ (r : Res Card). bind r (room_for (length a.out.now))) (no_card a.m.now a.t a.name.now (sym (ap told c.in_err-position.was) ∙ c.named_column.ensures))))

pub returns : goal.returns
returns c =
    let a = c.args in
    let all = bytes_all a.m.now (λ k. omega (arith, c.type_inv.m k)) in
    let w = carded a.m.now a.t a.name.now all (sym (ap told c.in_ok-position.was) ∙ c.named_column.ensures) in
    made_as (ap (λ (r : Res Card). bind r (room_for (length a.out.now))) (sym w.is)) c.put_card.ensures
