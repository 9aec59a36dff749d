-- `query::jump` meets its contract: where the readings that are left end is where all end. Assumes nothing.
use mathlib.Core.Path.{refl, sym, ◌∙◌}
use mathlib.Core.Bool.{false}
use Rattle.format.specs.Format.{counted}
use Rattle.format.specs.Value.{anything}
use Rattle.format.specs.Message.{first, unlimited}
use Rattle.format.proofs.Results.{handed_on}
use Rattle.scan.proofs.Loops.{loop_same, loop_done, loop_turn, loop_stop}
use Rattle.query.proofs.jump.Goals as goal

pub loop-init : goal.loop-init
loop-init c = refl

pub returns-in_err-at : goal.returns-in_err-at
returns-in_err-at c =
    let a = c.args in
    let l = c.loop in
    handed_on c.from_residual.ensures ∙ sym (loop_stop first (λ j. counted false unlimited anything 0 0) a.s.now a.n l.counter l.at c.loop-test.true c.skip_sized.ensures c.in_err-at.was) ∙ l.invariant ∙ loop_same first a.s.now (counted false unlimited anything 0 0) a.n a.from

pub loop-preserved : goal.loop-preserved
loop-preserved c =
    let a = c.args in
    let l = c.loop in
    loop_turn first (λ j. counted false unlimited anything 0 0) a.s.now a.n l.counter l.at c.loop-test.true c.skip_sized.ensures c.in_ok-at.was ∙ l.invariant

pub returns : goal.returns
returns c =
    let a = c.args in
    let l = c.loop in
    sym (loop_done first (λ j. counted false unlimited anything 0 0) a.s.now a.n l.counter l.at c.loop-test.false) ∙ l.invariant ∙ loop_same first a.s.now (counted false unlimited anything 0 0) a.n a.from
