-- `scan::skip_names` meets its contract: where the readings that are left end is where all end. Assumes nothing.
use mathlib.Core.Path.{refl, sym, ap, ◌∙◌}
use mathlib.Core.Bool.{false}
use Rattle.format.specs.Message.{third}
use Rattle.format.specs.Value.{string, ascii}
use Rattle.format.proofs.Results.{handed_on}
use Rattle.scan.specs.Shown.{shown_next}
use Rattle.scan.proofs.Params.{string_fields}
use Rattle.scan.proofs.Loops.{loop_same, loop_done, loop_turn, loop_stop}
use Rattle.scan.proofs.skip_names.Goals as goal

pub loop-init : goal.loop-init
loop-init c = refl

pub returns-in_err-at : goal.returns-in_err-at
returns-in_err-at c =
    let a = c.args in
    let l = c.loop in
    handed_on c.from_residual.ensures ∙ sym (loop_stop third (λ j. string false ascii 46 47) a.s.now a.n l.counter l.at c.loop-test.true (c.skip_name.ensures ∙ sym (ap shown_next (string_fields _ _ false ascii 46 47))) c.in_err-at.was) ∙ l.invariant ∙ loop_same third a.s.now (string false ascii 46 47) a.n a.from

pub loop-preserved : goal.loop-preserved
loop-preserved c =
    let a = c.args in
    let l = c.loop in
    loop_turn third (λ j. string false ascii 46 47) a.s.now a.n l.counter l.at c.loop-test.true (c.skip_name.ensures ∙ sym (ap shown_next (string_fields _ _ false ascii 46 47))) c.in_ok-at.was ∙ l.invariant

pub returns : goal.returns
returns c =
    let a = c.args in
    let l = c.loop in
    sym (loop_done third (λ j. string false ascii 46 47) a.s.now a.n l.counter l.at c.loop-test.false) ∙ l.invariant ∙ loop_same third a.s.now (string false ascii 46 47) a.n a.from
