-- `tally::tally_cells` meets its contract: what is left, after what was counted, is the whole. Assumes nothing.
use Rattle.format.proofs.Formats.{lawful_value}
use Rattle.tally.proofs.Tours.{bytes_all}
use Rattle.tally.proofs.Rounds.{round_first, round_next, round_last, all_map}
use Rattle.tally.proofs.tally_cells.Goals as goal

pub loop-t-init : goal.loop-t-init
loop-t-init c = λ ix. round_first _ _ _ _ _ _ _

pub loop-t-preserved : goal.loop-t-preserved
loop-t-preserved c = λ ix. round_next _ _ (λ m. lawful_value _ _ _) _ (bytes_all _ c.type_inv.s) _ _ _ c.loop-t-test.true (c.loop-t.invariant ix) (c.tally_value-tally.ensures.walks _)

pub returns : goal.returns
returns c = record { walks = λ ix. all_map _ _ _ _ (round_last _ _ _ _ _ _ _ c.loop-t-test.false (c.loop-t.invariant ix)) }
