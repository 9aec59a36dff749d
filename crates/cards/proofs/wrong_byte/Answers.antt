-- `cards::wrong_byte` meets its contract: the first wrong byte of those that are left is the first of all. Assumes nothing.
use mathlib.Core.Path.{refl, sym, ap, ◌∙◌}
use borrow.Author.Tests.{not-true, not-false}
use Rattle.cards.specs.Shown.{shown_wrong}
use Rattle.cards.proofs.Loops.{wrong_here, wrong_later, wrong_none}
use Rattle.cards.proofs.wrong_byte.Goals as goal

pub loop-k-init : goal.loop-k-init
loop-k-init c = refl

pub returns-then-not-name_byte : goal.returns-then-not-name_byte
returns-then-not-name_byte c =
    let l = c.loop-k in
    let a = c.args in
    ap shown_wrong (sym (wrong_here a.size a.name.now l.k c.loop-k-test.true (sym c.name_byte.ensures ∙ not-true _ c.if-not-name_byte.true-raw)) ∙ l.invariant)

pub loop-k-preserved : goal.loop-k-preserved
loop-k-preserved c =
    let l = c.loop-k in
    let a = c.args in
    sym (wrong_later a.size a.name.now l.k c.loop-k-test.true (sym c.name_byte.ensures ∙ not-false _ c.if-not-name_byte.false-raw)) ∙ l.invariant

pub returns : goal.returns
returns c =
    let l = c.loop-k in
    ap shown_wrong (sym (wrong_none _ _ l.k c.loop-k-test.false) ∙ l.invariant)
