-- `scan::skip_values` meets its contract: where the readings that are left end is where all end. Assumes nothing.
use mathlib.Core.Path.{refl, sym, ap, ◌∙◌}
use Rattle.format.specs.Message.{second}
use Rattle.format.specs.Value.{value}
use Rattle.format.proofs.Results.{handed_on}
use Rattle.scan.specs.Shown.{shown_next}
use Rattle.scan.proofs.Values.{value_fields}
use Rattle.scan.proofs.Loops.{loop_same, loop_done, loop_turn, loop_stop}
use Rattle.scan.proofs.skip_values.Goals as goal

pub loop-init : goal.loop-init
loop-init c = refl

pub returns-in_err-at : goal.returns-in_err-at
returns-in_err-at c =
    let a = c.args in
    let l = c.loop in
    handed_on c.from_residual.ensures ∙ sym (loop_stop second (λ j. value 27 28 a.t) a.s.now a.n l.counter l.at c.loop-test.true (c.skip_value.ensures ∙ sym (ap shown_next (value_fields _ _ 27 28 _))) c.in_err-at.was) ∙ l.invariant ∙ loop_same second a.s.now (value 27 28 a.t) a.n a.from

pub loop-preserved : goal.loop-preserved
loop-preserved c =
    let a = c.args in
    let l = c.loop in
    loop_turn second (λ j. value 27 28 a.t) a.s.now a.n l.counter l.at c.loop-test.true (c.skip_value.ensures ∙ sym (ap shown_next (value_fields _ _ 27 28 _))) c.in_ok-at.was ∙ l.invariant

pub returns : goal.returns
returns c =
    let a = c.args in
    let l = c.loop in
    sym (loop_done second (λ j. value 27 28 a.t) a.s.now a.n l.counter l.at c.loop-test.false) ∙ l.invariant ∙ loop_same second a.s.now (value 27 28 a.t) a.n a.from
