-- `writeexports::chaloenpik_close_table` meets its contract: the state is read from the numbers, and what the step leaves is kept in them. Assumes nothing.
use Rattle.steps.specs.Steps.{close_table}
use Rattle.numbers.proofs.Kept.{wrote}
use Rattle.writeexports.proofs.chaloenpik_close_table.Goals as goal

pub returns : goal.returns
returns c =
    let a = c.args in
    wrote close_table a.state.now a.types.now a.out.now _ _ c.load-st.ensures c.close_table-step.ensures c.keep.ensures
