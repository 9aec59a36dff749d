-- `writeexports::chaloenpik_open_table` meets its contract: the state is read from the numbers, and what the step leaves is kept in them. Assumes nothing.
use Rattle.steps.specs.Steps.{open_table}
use Rattle.columns.specs.Entries.{columns_of}
use Rattle.numbers.specs.Entries.{entries_of}
use Rattle.numbers.proofs.Kept.{wrote_all}
use Rattle.writeexports.proofs.chaloenpik_open_table.Goals as goal

pub returns : goal.returns
returns c =
    let a = c.args in
    wrote_all (open_table a.status (columns_of (entries_of a.list.now) a.names.now)) a.state.now a.types.now a.out.now _ _ _ c.load-st.ensures c.open_listed-step.ensures c.keep.ensures
