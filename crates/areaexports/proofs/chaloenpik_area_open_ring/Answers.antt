-- `areaexports::chaloenpik_area_open_ring` meets its contract: the state is read from the numbers, and what the step leaves is kept in them.
use Rattle.outline.specs.Steps.{open_ring}
use Rattle.areaexports.proofs.Kept.{wrote}
use Rattle.areaexports.proofs.chaloenpik_area_open_ring.Goals as goal

pub returns : goal.returns
returns c =
    let a = c.args in
    wrote (open_ring a.mark) a.state.now a.out.now _ _ c.load-st.ensures c.open_ring-step.ensures c.keep.ensures
