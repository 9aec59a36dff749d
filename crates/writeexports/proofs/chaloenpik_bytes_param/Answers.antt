-- `writeexports::chaloenpik_bytes_param` meets its contract: the state is read from the numbers, and what the step leaves is kept in them. Assumes nothing.
use Rattle.steps.specs.Steps.{bytes_param}
use Rattle.numbers.proofs.Kept.{wrote}
use mathlib.Core.List.{[]}
use Rattle.writeexports.proofs.chaloenpik_bytes_param.Goals as goal

pub returns : goal.returns
returns c =
    let a = c.args in
    wrote (bytes_param a.s.now) a.state.now [] a.out.now _ _ c.load-st.ensures c.bytes_param-step.ensures c.keep.ensures
