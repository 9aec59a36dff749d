-- `text::passed` meets its contract: what is said of the bytes that are left is what is said of all. Assumes nothing.
use mathlib.Core.Path.{refl, sym, ◌∙◌}
use Prim.Native.Nat.{◌+◌}
use lib.ListN.{get_or}
use native.Mathlib.Omega.{arith}
use Rattle.text.proofs.Sequences.{few_bytes}
use Rattle.text.proofs.Runs.{text_next}
use Rattle.text.proofs.passed.Goals as goal

pub loop-i-init : goal.loop-i-init
loop-i-init c = refl

pub returns-then-size-eq0 : goal.returns-then-size-eq0
returns-then-size-eq0 c = (c.loop-i.invariant, λ h. sym c.sequence_at-size.ensures ∙ c.if-size-eq0.true)

pub overflow_add-i : goal.overflow_add-i
overflow_add-i c =
    let b = c.args.b.now in
    let i = c.loop-i.i in
    omega (arith, few_bytes (get_or b i 0) (get_or b (i + 1) 0) (get_or b (i + 2) 0) (get_or b (i + 3) 0), c.sequence_at-size.ensures, c.loop-i-test.true, c.requires)

pub loop-i-smaller : goal.loop-i-smaller
loop-i-smaller c = omega (arith, c.if-size-eq0.false, c.loop-i-test.true)

pub loop-i-preserved : goal.loop-i-preserved
loop-i-preserved c =
    let l = c.loop-i in
    text_next c.args.b.now l.i (omega (arith, c.loop-i-test.true, c.requires)) _ c.sequence_at-size.ensures c.if-size-eq0.false ∙ l.invariant

pub returns : goal.returns
returns c = (c.loop-i.invariant, λ h. absurd (omega (arith, c.loop-i-test.false)))
