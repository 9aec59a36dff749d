-- `areaexports::chaloenpik_area_ring` meets its contract: what the question answers, in the lent list.
use Rattle.areaexports.specs.Listed.{ring_numbers}
use Rattle.numbers.proofs.Lent.{lent_answer}
use Rattle.areaexports.proofs.chaloenpik_area_ring.Goals as goal

pub returns : goal.returns
returns c = lent_answer ring_numbers c.args.list.now c.ring.ensures c.lend_ring.ensures
