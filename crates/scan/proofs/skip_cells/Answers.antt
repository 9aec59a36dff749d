-- `scan::skip_cells` meets its contract: where the readings that are left end is where all end. Assumes nothing.
use mathlib.Core.Path.{refl, sym, ap, ◌∙◌}
use lib.ListN.{length, get_or}
use Rattle.format.specs.Message.{third}
use Rattle.format.specs.Value.{value}
use Rattle.format.proofs.Results.{handed_on}
use Rattle.scan.specs.Shown.{shown_next}
use Rattle.scan.proofs.Values.{value_fields}
use Rattle.scan.proofs.Loops.{loop_map, loop_done, loop_turn, loop_stop}
use Rattle.scan.proofs.skip_cells.Goals as goal

pub loop-t-init : goal.loop-t-init
loop-t-init c = refl

pub returns-in_err-at : goal.returns-in_err-at
returns-in_err-at c =
    let a = c.args in
    let l = c.loop-t in
    let step = c.skip_value.ensures ∙ sym (ap shown_next (value_fields _ _ 50 51 _)) in
    handed_on c.from_residual.ensures ∙ sym (loop_stop third (λ j. value 50 51 (get_or a.types.now j 0)) a.s.now (length a.types.now) l.t-index l.at c.loop-t-test.true step c.in_err-at.was) ∙ l.invariant ∙ loop_map third a.s.now (value 50 51) a.types.now a.from

pub loop-t-preserved : goal.loop-t-preserved
loop-t-preserved c =
    let a = c.args in
    let l = c.loop-t in
    let step = c.skip_value.ensures ∙ sym (ap shown_next (value_fields _ _ 50 51 _)) in
    loop_turn third (λ j. value 50 51 (get_or a.types.now j 0)) a.s.now (length a.types.now) l.t-index l.at c.loop-t-test.true step c.in_ok-at.was ∙ l.invariant

pub returns : goal.returns
returns c =
    let a = c.args in
    let l = c.loop-t in
    sym (loop_done third (λ j. value 50 51 (get_or a.types.now j 0)) a.s.now (length a.types.now) l.t-index l.at c.loop-t-test.false) ∙ l.invariant ∙ loop_map third a.s.now (value 50 51) a.types.now a.from
