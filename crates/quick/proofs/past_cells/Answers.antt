-- `quick::past_cells` meets its contract: while the place is in the room, where the cells that are left end is where all end. Assumes nothing.
use mathlib.Core.Path.{refl, sym, ap, ◌∙◌}
use Prim.Native.Nat.{◌<◌}
use lib.ListN.{length, get_or}
use native.Mathlib.Omega.{arith}
use Rattle.format.specs.Message.{third}
use Rattle.format.specs.Value.{value}
use Rattle.scan.specs.Shown.{shown_next}
use Rattle.scan.proofs.Values.{value_fields}
use Rattle.scan.proofs.Loops.{loop_map, loop_done, loop_turn}
use Rattle.quick.proofs.past_cells.Goals as goal

pub loop-t-init : goal.loop-t-init
loop-t-init c = (omega arith, λ h. refl)

pub past_value-past-requires : goal.past_value-past-requires
past_value-past-requires c =
    let l = c.loop-t in
    omega (arith, l.invariant.0, c.loop-t-test.true, c.requires, c.args.types.few, c.well_formed.0.1)

pub returns-then-past-eq0 : goal.returns-then-past-eq0
returns-then-past-eq0 c = λ there. absurd (omega arith)

pub loop-t-preserved : goal.loop-t-preserved
loop-t-preserved c =
    let a = c.args in
    let l = c.loop-t in
    let there : 0 < c.past_value-past.result = omega (arith, c.if-past-eq0.false) in
    let past = c.past_value-past.ensures there in (
      omega (arith, past.1, l.invariant.0),
      λ h.
          let told = ap shown_next (value_fields a.s.now l.at 50 51 (get_or a.types.bytes.now l.t-index 0)) ∙ past.2 h in
          loop_turn third (λ j. value 50 51 (get_or a.types.bytes.now j 0)) a.s.now (length a.types.bytes.now) l.t-index l.at c.loop-t-test.true refl told ∙ l.invariant.1 (omega (arith, past.0, h)),
    )

pub returns : goal.returns
returns c =
    let a = c.args in
    let l = c.loop-t in
    λ there h.
    sym (loop_map third a.s.now (value 50 51) a.types.bytes.now a.from) ∙ sym (l.invariant.1 h)
    ∙ loop_done third (λ j. value 50 51 (get_or a.types.bytes.now j 0)) a.s.now (length a.types.bytes.now) l.t-index l.at c.loop-t-test.false
