-- `writeexports::chaloenpik_whole_row` meets its contract: the state is read from the numbers, and what the row leaves is kept in them. Assumes nothing.
use Rattle.write.specs.declared.State.{State}
use Rattle.write.specs.Shown.{seen}
use Rattle.whole.specs.Rows.{whole_row}
use Rattle.numbers.proofs.Kept.{gave_from}
use Rattle.writeexports.proofs.chaloenpik_whole_row.Goals as goal

pub returns : goal.returns
returns c =
    let a = c.args in
    gave_from (λ (z : State). whole_row a.bytes.now a.cells.now (seen z a.types.now) a.out.now) a.state.now c.load-st.ensures c.whole_row-step.ensures c.keep.ensures
