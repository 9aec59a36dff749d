-- `writeexports::chaloenpik_body_element` meets its contract: the state is read from the numbers, and what the step leaves is kept in them. Assumes nothing.
use Rattle.format.specs.Value.{body}
use Rattle.put.specs.Put.{optional}
use Rattle.steps.specs.Steps.{element}
use Rattle.numbers.proofs.Kept.{wrote}
use mathlib.Core.List.{[]}
use Rattle.writeexports.proofs.chaloenpik_body_element.Goals as goal

pub returns : goal.returns
returns c =
    let a = c.args in
    wrote (element a.t (body (optional a.null a.s.now))) a.state.now [] a.out.now _ _ c.load-st.ensures (rw c.text_of.ensures at c.body_element-step.ensures) c.keep.ensures
