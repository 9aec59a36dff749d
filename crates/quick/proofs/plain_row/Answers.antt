-- `quick::plain_row` meets its contract: any bytes are the cells so far, as many as their sizes add up to. Assumes nothing.
use mathlib.Core.Path.{◌≡◌, refl, sym, ap, ◌∙◌}
use Prim.Native.Nat.{◌+◌, ◌<◌}
use lib.ListN.{length, get_or}
use native.Mathlib.Omega.{arith}
use Rattle.format.specs.Message.{third}
use Rattle.format.specs.Value.{value}
use Rattle.scan.specs.Shown.{shown_next}
use Rattle.scan.proofs.Values.{value_fields}
use Rattle.scan.proofs.Loops.{loop_map, loop_done, loop_turn}
use Rattle.quick.specs.Past.{plain_of}
use Rattle.quick.proofs.Bodies.{plain_reads}
use Rattle.quick.proofs.plain_row.Goals as goal

pub loop-t-init : goal.loop-t-init
loop-t-init c = (omega arith, λ s at h. let same : at + 0 ≡ at = omega arith in rw same)

pub returns-then-width-eq0 : goal.returns-then-width-eq0
returns-then-width-eq0 c = (λ there. absurd (omega arith), omega arith)

pub loop-t-preserved : goal.loop-t-preserved
loop-t-preserved c =
    let types = c.args.types.bytes.now in
    let l = c.loop-t in
    let w = c.plain_of-width.ensures in
    let t = get_or types l.t-index 0 in
    let plain : 0 < plain_of t = omega (arith, c.if-width-eq0.false, w.0) in (
      omega (arith, w.1, l.invariant.0),
      λ s at h.
          let place : at + (l.sum + c.plain_of-width.result) ≡ at + l.sum + plain_of t = omega (arith, w.0) in
          let told = ap shown_next (value_fields s (at + l.sum) 50 51 t) ∙ plain_reads s (at + l.sum) t plain (omega (arith, h, place)) in
          rw place (loop_turn third (λ j. value 50 51 (get_or types j 0)) s (length types) l.t-index (at + l.sum) c.loop-t-test.true refl told ∙ l.invariant.1 s at (omega (arith, h))),
    )

pub returns : goal.returns
returns c =
    let types = c.args.types.bytes.now in
    let l = c.loop-t in (
      λ there s at h.
          sym (loop_map third s (value 50 51) types at) ∙ sym (l.invariant.1 s at h)
          ∙ loop_done third (λ j. value 50 51 (get_or types j 0)) s (length types) l.t-index (at + l.sum) c.loop-t-test.false,
      omega (arith, l.invariant.0, l.invariant.0, c.args.types.few),
    )
