-- `whole::sure_body` meets its contract: a null has 4 bytes; else the bytes stand among those that are lent, and have no fault. Assumes nothing.
use Prim.Native.Nat.{◌+◌, ◌≤◌}
use mathlib.Core.Path.{sym, ap, ◌∙◌}
use lib.ListN.{length}
use borrow.Author.Tests.{leb-true, not-false}
use Rattle.write.specs.Shared.{verdict_of}
use Rattle.whole.proofs.Sures.{sure_null, sure_there}
use Rattle.whole.proofs.sure_body.Goals as goal

pub returns-then-size-eq-NULL_SIZE : goal.returns-then-size-eq-NULL_SIZE
returns-then-size-eq-NULL_SIZE c = λ _. (let a = c.args in sure_null a.bytes.now a.at a.t a.start a.size c.requires c.if-size-eq-NULL_SIZE.true)

pub returns : goal.returns
returns c =
    let a = c.args in
    let h : a.start + a.size ≤ length a.bytes.now = leb-true _ _ (sym c.fits.ensures ∙ not-false _ c.if-not-fits.false-raw) in
    λ _. sure_there a.bytes.now a.at a.t a.start a.size c.requires c.if-size-eq-NULL_SIZE.false h (sym (ap verdict_of c.in-Ok.is) ∙ c.body_fault.ensures)
