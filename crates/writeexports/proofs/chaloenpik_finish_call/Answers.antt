-- `writeexports::chaloenpik_finish_call` meets its contract: the state is read from the numbers, and what the step leaves is kept in them. Assumes nothing.
use Rattle.steps.specs.Steps.{finish_call}
use Rattle.numbers.proofs.Kept.{wrote}
use mathlib.Core.List.{[]}
use Rattle.writeexports.proofs.chaloenpik_finish_call.Goals as goal

pub returns : goal.returns
returns c =
    let a = c.args in
    wrote finish_call a.state.now [] a.out.now _ _ c.load-st.ensures c.finish_call-step.ensures c.keep.ensures
