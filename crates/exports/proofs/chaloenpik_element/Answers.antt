-- `exports::chaloenpik_element` meets its contract: what the query answers, in the lent list. Assumes nothing.
use Rattle.numbers.specs.Listed.{cell_numbers}
use Rattle.numbers.proofs.Lent.{lent_answer}
use Rattle.exports.proofs.chaloenpik_element.Goals as goal

pub returns : goal.returns
returns c = lent_answer cell_numbers c.args.list.now c.element.ensures c.lend_cell.ensures
