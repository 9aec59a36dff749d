-- `tally::tally_names` meets its contract: what is left, after what was counted, is the whole. Assumes nothing.
use Rattle.tally.proofs.Tours.{bytes_all}
use Rattle.tally.proofs.Rounds.{round_first, round_next, round_last, all_same}
use Rattle.tally.proofs.Values.{lawful_string}
use Rattle.tally.proofs.tally_names.Goals as goal

pub loop-init : goal.loop-init
loop-init c = λ ix. round_first _ _ _ _ _ _ _

pub loop-preserved : goal.loop-preserved
loop-preserved c = λ ix. round_next _ _ (λ m. lawful_string _ _ _ _) _ (bytes_all _ c.type_inv.s) _ _ _ c.loop-test.true (c.loop.invariant ix) (c.tally_name-tally.ensures.walks _)

pub returns : goal.returns
returns c = record { walks = λ ix. all_same _ _ _ _ (round_last _ _ _ _ _ _ _ c.loop-test.false (c.loop.invariant ix)) }
