-- `write::columns_sound` meets its contract: after i turns it says whether the first i types are columns. Assumes nothing.
use mathlib.Core.Path.{ap₂, ◌∙◌}
use mathlib.Core.Bool.{◌&&◌}
use native.Mathlib.Omega.{arith}
use Rattle.write.proofs.Tested.{all_next}
use Rattle.write.proofs.columns_sound.Goals as goal

pub loop-i-preserved : goal.loop-i-preserved
loop-i-preserved c =
    let l = c.loop-i in
    c.both-fine.ensures ∙ ap₂ ◌&&◌ c.is_column.ensures l.invariant ∙ all_next c.args.types.now l.i (omega arith)
