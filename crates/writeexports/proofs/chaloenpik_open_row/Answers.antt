-- `writeexports::chaloenpik_open_row` meets its contract: the state is read from the numbers, and what the step leaves is kept in them. Assumes nothing.
use Rattle.steps.specs.Steps.{open_row}
use Rattle.numbers.proofs.Kept.{wrote}
use Rattle.writeexports.proofs.chaloenpik_open_row.Goals as goal

pub returns : goal.returns
returns c =
    let a = c.args in
    wrote open_row a.state.now a.types.now a.out.now _ _ c.load-st.ensures c.open_row-step.ensures c.keep.ensures
