-- `areas::pass_rings` meets its contract: what is so of the rings that are left is so of all. Assumes nothing.
use Rattle.format.proofs.Results.{handed_on}
use Rattle.std.proofs.Common.{sym, ◌∙◌, arith, lt-ltb}
use Rattle.message.proofs.Parts.{bytes_all}
use Rattle.areas.proofs.Rounds.{rings_start, rings_done, rings_turn, rings_stop}
use Rattle.areas.proofs.pass_rings.Goals as goal

pub returns-in_err-at : goal.returns-in_err-at
returns-in_err-at c =
    let a = c.args in
    let l = c.loop-i in
    let by = bytes_all a.b.now (λ k. (c.type_inv.b k).fits) in
    handed_on c.from_residual.ensures ∙ sym (rings_stop a.b.now a.sought by a.n l.i l.at l.found c.loop-i-test.true c.pass_ring.ensures c.in_err-at.was) ∙ l.invariant.1 ∙ rings_start a.b.now a.sought a.n a.from

pub loop-i-preserved : goal.loop-i-preserved
loop-i-preserved c =
    let a = c.args in
    let l = c.loop-i in
    let by = bytes_all a.b.now (λ k. (c.type_inv.b k).fits) in
    let turn = rings_turn a.b.now a.sought by a.n l.i l.at l.found c.loop-i-test.true c.pass_ring.ensures c.in_ok-at.was l.invariant.0 in
    ((λ h. c.either-found.ensures ∙ rw (lt-ltb l.i a.sought (omega arith))), rw c.either-found.ensures turn ∙ l.invariant.1)

pub returns : goal.returns
returns c =
    let a = c.args in
    let l = c.loop-i in
    sym (rings_done a.b.now a.sought a.n l.i l.at l.found c.loop-i-test.false) ∙ l.invariant.1 ∙ rings_start a.b.now a.sought a.n a.from
