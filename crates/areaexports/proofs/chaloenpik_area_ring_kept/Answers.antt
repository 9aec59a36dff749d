-- `areaexports::chaloenpik_area_ring_kept` meets its contract: what the question answers, in the lent list.
use Rattle.numbers.specs.Listed.{part_numbers}
use Rattle.numbers.proofs.Lent.{lent_answer}
use Rattle.areaexports.proofs.chaloenpik_area_ring_kept.Goals as goal

pub returns : goal.returns
returns c = lent_answer part_numbers c.args.list.now c.ring_kept.ensures c.lend_part.ensures
