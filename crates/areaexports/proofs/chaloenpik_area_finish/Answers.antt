-- `areaexports::chaloenpik_area_finish` meets its contract: the state is read from the numbers, and what the step leaves is kept in them.
use Rattle.outline.specs.Steps.{finish_area}
use Rattle.areaexports.proofs.Kept.{wrote}
use Rattle.areaexports.proofs.chaloenpik_area_finish.Goals as goal

pub returns : goal.returns
returns c =
    let a = c.args in
    wrote (finish_area a.kept.now) a.state.now a.out.now _ _ c.load-st.ensures c.finish-step.ensures c.keep.ensures
