-- `writeexports::chaloenpik_fixed_cell` meets its contract: the state is read from the numbers, and what the step leaves is kept in them. Assumes nothing.
use Prim.Native.Nat.{◌+◌, ◌*◌, ◌^◌}
use Rattle.format.specs.Value.{fixed}
use Rattle.steps.specs.Steps.{cell}
use Rattle.numbers.proofs.Kept.{wrote}
use Rattle.writeexports.proofs.chaloenpik_fixed_cell.Goals as goal

pub returns : goal.returns
returns c =
    let a = c.args in
    wrote (cell a.t (fixed (a.upper * 2 ^ 64 + a.lower))) a.state.now a.types.now a.out.now _ _ c.load-st.ensures c.fixed_cell-step.ensures c.keep.ensures
