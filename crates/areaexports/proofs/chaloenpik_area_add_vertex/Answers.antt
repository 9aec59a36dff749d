-- `areaexports::chaloenpik_area_add_vertex` meets its contract: the state is read from the numbers, and what the step leaves is kept in them.
use Rattle.outline.specs.Steps.{add_vertex}
use Rattle.areaexports.proofs.Kept.{wrote}
use Rattle.areaexports.proofs.chaloenpik_area_add_vertex.Goals as goal

pub returns : goal.returns
returns c =
    let a = c.args in
    wrote (add_vertex a.x a.y a.z) a.state.now a.out.now _ _ c.load-st.ensures c.add_vertex-step.ensures c.keep.ensures
