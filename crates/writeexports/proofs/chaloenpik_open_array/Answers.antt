-- `writeexports::chaloenpik_open_array` meets its contract: the state is read from the numbers, and what the step leaves is kept in them. Assumes nothing.
use Rattle.steps.specs.Steps.{open_array}
use Rattle.numbers.proofs.Kept.{wrote}
use mathlib.Core.List.{[]}
use Rattle.writeexports.proofs.chaloenpik_open_array.Goals as goal

pub returns : goal.returns
returns c =
    let a = c.args in
    wrote (open_array a.t) a.state.now [] a.out.now _ _ c.load-st.ensures c.open_array-step.ensures c.keep.ensures
