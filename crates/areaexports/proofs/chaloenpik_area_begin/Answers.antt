-- `areaexports::chaloenpik_area_begin` meets its contract: what the step leaves is kept in the numbers.
use Rattle.outline.specs.State.{closed}
use Rattle.outline.specs.Steps.{begin_area}
use Rattle.areaexports.proofs.Kept.{wrote_from}
use Rattle.areaexports.proofs.chaloenpik_area_begin.Goals as goal

pub returns : goal.returns
returns c =
    let a = c.args in
    wrote_from (begin_area a.edition a.internal) (closed 0) a.state.now a.out.now _ _ c.begin-step.ensures c.keep.ensures
