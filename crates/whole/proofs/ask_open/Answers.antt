-- `whole::ask_open` meets its contract: its tests are those of the plan. Assumes nothing.
use mathlib.Core.Path.{refl, sym}
use Rattle.format.proofs.Numbers.{length-num_bytes}
use Rattle.steps.specs.Steps.{plan, open_row}
use Rattle.write.specs.Shown.{seen}
use Rattle.write.proofs.Taken.{answered}
use Rattle.whole.proofs.ask_open.Goals as goal

pub returns : goal.returns
returns c = answered (plan open_row (seen c.args.st c.args.types.now) c.args.size) c.args.size c.judge.ensures c.at_table-permitted.ensures refl (λ u w. (c.one_more-more.ensures, sym (length-num_bytes 4 0)))
