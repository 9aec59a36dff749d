-- `areaexports::chaloenpik_area_vertex` meets its contract: what the question answers, in the lent list.
use Rattle.areaexports.specs.Listed.{axes}
use Rattle.numbers.proofs.Lent.{lent_answer}
use Rattle.areaexports.proofs.chaloenpik_area_vertex.Goals as goal

pub returns : goal.returns
returns c = lent_answer axes c.args.list.now c.vertex_bits.ensures c.lend_bits.ensures
