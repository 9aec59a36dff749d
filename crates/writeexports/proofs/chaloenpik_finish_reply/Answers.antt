-- `writeexports::chaloenpik_finish_reply` meets its contract: the state is read from the numbers, and what the step leaves is kept in them. Assumes nothing.
use Rattle.steps.specs.Steps.{finish_reply}
use Rattle.numbers.proofs.Kept.{wrote}
use mathlib.Core.List.{[]}
use Rattle.writeexports.proofs.chaloenpik_finish_reply.Goals as goal

pub returns : goal.returns
returns c =
    let a = c.args in
    wrote finish_reply a.state.now [] a.out.now _ _ c.load-st.ensures c.finish_reply-step.ensures c.keep.ensures
