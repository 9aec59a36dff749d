-- `whole::ask_body` meets its contract: a null, bytes that stand among those that are lent, or none. Assumes nothing.
use Prim.Native.Nat.{◌+◌, ◌≤◌}
use mathlib.Core.Path.{sym, ◌∙◌}
use lib.ListN.{length}
use borrow.Author.Tests.{leb-true, not-false}
use Rattle.write.specs.Shown.{seen}
use Rattle.whole.proofs.Sures.{asked_null, asked_there}
use Rattle.whole.proofs.ask_body.Goals as goal

pub returns-then-size-eq-NULL_SIZE : goal.returns-then-size-eq-NULL_SIZE
returns-then-size-eq-NULL_SIZE c =
    let a = c.args in
    asked_null a.bytes.now (seen a.st a.types.now) a.t a.room a.start a.size c.if-size-eq-NULL_SIZE.true c.body_fault-null.ensures c.ask_cell.ensures

pub returns : goal.returns
returns c =
    let a = c.args in
    let h : a.start + a.size ≤ length a.bytes.now = leb-true _ _ (sym c.fits.ensures ∙ not-false _ c.if-not-fits.false-raw) in
    asked_there a.bytes.now (seen a.st a.types.now) a.t a.room a.start a.size c.if-size-eq-NULL_SIZE.false h c.body_fault-fault.ensures c.ask_cell-2.ensures
