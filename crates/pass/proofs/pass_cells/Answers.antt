-- `pass::pass_cells` meets its contract: what is left ends where the whole does.
use Rattle.pass.proofs.Rounds.{round_first, round_next, round_last, all_map}
use Rattle.pass.proofs.pass_cells.Goals as goal

pub loop-t-init : goal.loop-t-init
loop-t-init c = round_first _ _ _ _ _

pub loop-t-preserved : goal.loop-t-preserved
loop-t-preserved c = round_next _ _ _ _ _ _ c.loop-t-test.true c.loop-t.invariant (c.pass_cell-at.ensures 50 51)

pub returns : goal.returns
returns c = all_map _ _ _ _ (round_last _ _ _ _ _ c.loop-t-test.false c.loop-t.invariant)
