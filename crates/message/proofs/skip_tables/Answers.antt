-- `message::skip_tables` meets its contract: where the readings that are left end is where all end. Assumes nothing.
use mathlib.Core.Path.{refl, sym, ◌∙◌}
use Rattle.format.specs.Message.{first, table}
use Rattle.format.proofs.Results.{handed_on}
use Rattle.scan.proofs.Loops.{loop_same, loop_done, loop_turn, loop_stop}
use Rattle.message.proofs.skip_tables.Goals as goal

pub loop-init : goal.loop-init
loop-init c = refl

pub returns-in_err-at : goal.returns-in_err-at
returns-in_err-at c =
    let a = c.args in
    let l = c.loop in
    handed_on c.from_residual.ensures ∙ sym (loop_stop first (λ j. table) a.m.now a.n l.counter l.at c.loop-test.true c.skip_table.ensures c.in_err-at.was) ∙ l.invariant ∙ loop_same first a.m.now (table) a.n a.from

pub loop-preserved : goal.loop-preserved
loop-preserved c =
    let a = c.args in
    let l = c.loop in
    loop_turn first (λ j. table) a.m.now a.n l.counter l.at c.loop-test.true c.skip_table.ensures c.in_ok-at.was ∙ l.invariant

pub returns : goal.returns
returns c =
    let a = c.args in
    let l = c.loop in
    sym (loop_done first (λ j. table) a.m.now a.n l.counter l.at c.loop-test.false) ∙ l.invariant ∙ loop_same first a.m.now (table) a.n a.from
