-- `writeexports::chaloenpik_begin_call` meets its contract: what the step leaves is kept in the numbers. Assumes nothing.
use mathlib.Core.List.{[]}
use Rattle.steps.specs.Steps.{begin_call}
use Rattle.write.specs.Shown.{zero}
use Rattle.numbers.proofs.Kept.{wrote_from}
use Rattle.writeexports.proofs.chaloenpik_begin_call.Goals as goal

pub returns : goal.returns
returns c =
    let a = c.args in
    wrote_from (begin_call a.version a.procedure.now a.client.now) zero a.state.now [] a.out.now _ _ c.begin_call-step.ensures c.keep.ensures
