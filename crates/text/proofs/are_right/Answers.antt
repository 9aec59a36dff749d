-- `text::are_right` meets its contract: as long as nothing wrong was found, all bytes that were looked at are right. Assumes nothing.
use mathlib.Core.Path.{sym, ◌∙◌}
use Rattle.text.proofs.Windows.{or_false, right_more}
use Rattle.text.proofs.are_right.Goals as goal

pub loop-k-preserved : goal.loop-k-preserved
loop-k-preserved c = λ e.
    let l = c.loop-k in
    let a = c.args in
    let right = or_false l.wrong c.is_wrong.result (sym c.either-wrong.ensures ∙ e) in
    right_more a.b.now a.i l.k (l.invariant right.0) (sym c.is_wrong.ensures ∙ right.1)
