-- `areaexports::chaloenpik_area_close_ring` meets its contract: the state is read from the numbers, and what the step leaves is kept in them.
use Rattle.outline.specs.Steps.{close_ring}
use Rattle.areaexports.proofs.Kept.{wrote}
use Rattle.areaexports.proofs.chaloenpik_area_close_ring.Goals as goal

pub returns : goal.returns
returns c =
    let a = c.args in
    wrote (close_ring a.kept.now) a.state.now a.out.now _ _ c.load-st.ensures c.close_ring-step.ensures c.keep.ensures
