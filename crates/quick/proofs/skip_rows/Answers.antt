-- `quick::skip_rows` meets its contract: after the rows that were passed by their length, the rest ends where all do. Assumes nothing.
use mathlib.Core.Path.{◌≡◌, sym, ap, ◌∙◌}
use Prim.Native.Nat.{ℕ}
use native.Mathlib.Omega.{arith}
use Rattle.format.specs.Message.{row}
use Rattle.quick.specs.Past.{Ends}
use Rattle.quick.proofs.Rows.{ends_done}
use Rattle.quick.proofs.skip_rows.Goals as goal

pub returns-then-n-eq0 : goal.returns-then-n-eq0
returns-then-n-eq0 c =
    let a = c.args in
    let none : a.n ≡ 0 = c.if-n-eq0.true in
    sym (ap (λ (n : ℕ). Ends (row a.types.now) a.s.now n a.from) none ∙ ends_done (row a.types.now) a.s.now 0 0 a.from (omega arith))

pub returns-then-run-n : goal.returns-then-run-n
returns-then-run-n c =
    let a = c.args in
    let run = c.plain_rows-run in
    sym (ends_done (row a.types.now) a.s.now a.n run.result.passed run.result.at (omega (arith, c.if-run-n.true)))
    ∙ run.ensures.1 a.types.now c.plain_row-plain.ensures.0

pub returns : goal.returns
returns c = c.skip_ruled-2.ensures ∙ c.plain_rows-run.ensures.1 c.args.types.now c.plain_row-plain.ensures.0
