-- `writeexports::chaloenpik_body_cell` meets its contract: the state is read from the numbers, and what the step leaves is kept in them. Assumes nothing.
use Rattle.format.specs.Value.{body}
use Rattle.put.specs.Put.{optional}
use Rattle.steps.specs.Steps.{cell}
use Rattle.numbers.proofs.Kept.{wrote}
use Rattle.writeexports.proofs.chaloenpik_body_cell.Goals as goal

pub returns : goal.returns
returns c =
    let a = c.args in
    wrote (cell a.t (body (optional a.null a.s.now))) a.state.now a.types.now a.out.now _ _ c.load-st.ensures (rw c.text_of.ensures at c.body_cell-step.ensures) c.keep.ensures
