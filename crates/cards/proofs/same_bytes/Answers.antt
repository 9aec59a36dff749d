-- `cards::same_bytes` meets its contract: the bytes from one on are equal. Assumes nothing.
use mathlib.Core.Path.{◌≡◌}
use Prim.Native.Nat.{◌-◌}
use native.Mathlib.Omega.{arith}
use Rattle.query.proofs.Ends.{none_seen, one_more}
use Rattle.cards.proofs.Loops.{other_length, other_byte, all_bytes}
use Rattle.cards.proofs.same_bytes.Goals as goal

pub returns-then-a-b : goal.returns-then-a-b
returns-then-a-b c = other_length _ _ c.if-a-b.true

pub loop-i-init : goal.loop-i-init
loop-i-init c = none_seen _ c.args.b.now _ (omega arith)

pub returns-then-a-i : goal.returns-then-a-i
returns-then-a-i c = other_byte _ _ (c.loop-i.i - 1) c.if-a-i.true

pub loop-i-preserved : goal.loop-i-preserved
loop-i-preserved c =
    let l = c.loop-i in
    one_more _ c.args.b.now l.i l.invariant c.if-a-i.false

pub returns : goal.returns
returns c =
    let l = c.loop-i in
    let done : l.i ≡ 0 = omega arith in
    all_bytes _ _ c.if-a-b.false (rw done at l.invariant)
