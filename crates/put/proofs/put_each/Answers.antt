-- `put::put_each` meets its contract: after each turn one byte more of the number stands at its end. Assumes nothing.
use Rattle.put.proofs.Laws.{wrote_none, wrote_more}
use Rattle.put.proofs.put_each.Goals as goal

pub loop-i-init : goal.loop-i-init
loop-i-init c = wrote_none _ _ _ c.requires

pub loop-i-preserved : goal.loop-i-preserved
loop-i-preserved c = wrote_more _ _ _ c.loop-i.i _ _ c.loop-i-test.true c.loop-i.invariant
