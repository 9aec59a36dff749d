-- `pass::pass_values` meets its contract: what is left ends where the whole does.
use Rattle.pass.proofs.Rounds.{round_first, round_next, round_last, all_same}
use Rattle.pass.proofs.pass_values.Goals as goal

pub loop-init : goal.loop-init
loop-init c = round_first _ _ _ _ _

pub loop-preserved : goal.loop-preserved
loop-preserved c = round_next _ _ _ _ _ _ c.loop-test.true c.loop.invariant (c.pass_value-at.ensures 27 28)

pub returns : goal.returns
returns c = all_same _ _ _ _ (round_last _ _ _ _ _ c.loop-test.false c.loop.invariant)
