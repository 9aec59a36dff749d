-- `quick::skip_ruled` meets its contract: after a run and the row behind it, where the rows that are left end is where all end. Assumes nothing.
use mathlib.Core.Path.{◌≡◌, sym, ◌∙◌}
use Prim.Native.Nat.{◌+◌, ◌-◌, ◌<◌}
use native.Mathlib.Omega.{arith}
use Rattle.format.specs.Message.{row}
use Rattle.format.proofs.Results.{handed_on}
use Rattle.std.proofs.Common.{rules}
use Rattle.quick.proofs.Rows.{ends_run, ends_done, ends_turn, ends_stop}
use Rattle.quick.proofs.skip_ruled.Goals as goal

pub loop-i-init : goal.loop-i-init
loop-i-init c =
    let a = c.args in
    let all : a.n - 0 ≡ a.n = omega arith in
    (omega arith, rw all)

pub returns-then-i-n : goal.returns-then-i-n
returns-then-i-n c =
    let a = c.args in
    let l = c.loop-i in
    let run = c.past_each-run in
    sym (ends_done (row a.types.bytes.now) a.s.now a.n (l.i + run.result.passed) run.result.at (omega (arith, c.if-i-n.true)))
    ∙ ends_run (row a.types.bytes.now) a.s.now (λ at next there. search (rules, there)) a.from a.n l.i l.at run.result run.ensures l.invariant.1

pub returns-in_err-at : goal.returns-in_err-at
returns-in_err-at c =
    let a = c.args in
    let l = c.loop-i in
    let run = c.past_each-run in
    let more : l.i + run.result.passed < a.n = omega (arith, c.if-i-n.false, run.ensures.0, c.loop-i-test.true) in
    handed_on c.from_residual.ensures ∙ sym (ends_stop (row a.types.bytes.now) a.s.now a.n (l.i + run.result.passed) run.result.at more c.skip_row.ensures c.in_err-at.was)
    ∙ ends_run (row a.types.bytes.now) a.s.now (λ at next there. search (rules, there)) a.from a.n l.i l.at run.result run.ensures l.invariant.1

pub loop-i-preserved : goal.loop-i-preserved
loop-i-preserved c =
    let a = c.args in
    let l = c.loop-i in
    let run = c.past_each-run in
    let more : l.i + run.result.passed < a.n = omega (arith, c.if-i-n.false, run.ensures.0, c.loop-i-test.true) in (
      omega (arith, more),
      ends_turn (row a.types.bytes.now) a.s.now a.n (l.i + run.result.passed) run.result.at more c.skip_row.ensures c.in_ok-at.was
          ∙ ends_run (row a.types.bytes.now) a.s.now (λ at next there. search (rules, there)) a.from a.n l.i l.at run.result run.ensures l.invariant.1,
    )

pub returns : goal.returns
returns c =
    let a = c.args in
    let l = c.loop-i in
    sym (ends_done (row a.types.bytes.now) a.s.now a.n l.i l.at c.loop-i-test.false) ∙ l.invariant.1
