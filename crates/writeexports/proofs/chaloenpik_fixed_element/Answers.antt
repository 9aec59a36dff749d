-- `writeexports::chaloenpik_fixed_element` meets its contract: the state is read from the numbers, and what the step leaves is kept in them. Assumes nothing.
use Prim.Native.Nat.{◌+◌, ◌*◌, ◌^◌}
use Rattle.format.specs.Value.{fixed}
use Rattle.steps.specs.Steps.{element}
use Rattle.numbers.proofs.Kept.{wrote}
use mathlib.Core.List.{[]}
use Rattle.writeexports.proofs.chaloenpik_fixed_element.Goals as goal

pub returns : goal.returns
returns c =
    let a = c.args in
    wrote (element a.t (fixed (a.upper * 2 ^ 64 + a.lower))) a.state.now [] a.out.now _ _ c.load-st.ensures c.fixed_element-step.ensures c.keep.ensures
