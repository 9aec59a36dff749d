-- `exports::chaloenpik_column_name` meets its contract: what the query answers, in the lent list. Assumes nothing.
use Rattle.numbers.specs.Listed.{part_numbers}
use Rattle.numbers.proofs.Lent.{lent_answer}
use Rattle.exports.proofs.chaloenpik_column_name.Goals as goal

pub returns : goal.returns
returns c = lent_answer part_numbers c.args.list.now c.column_name.ensures c.lend_part.ensures
