-- `exports::chaloenpik_card_fit` meets its contract: how the card fits, in the lent list. Assumes nothing.
use Rattle.numbers.specs.Listed.{fit_numbers}
use Rattle.numbers.proofs.Lent.{lent_answer}
use Rattle.exports.proofs.chaloenpik_card_fit.Goals as goal

pub returns : goal.returns
returns c = lent_answer fit_numbers c.args.list.now c.card_fit.ensures c.lend_fit.ensures
