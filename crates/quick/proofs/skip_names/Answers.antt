-- `quick::skip_names` meets its contract: after the names that were passed the rest ends where all do. Assumes nothing.
use mathlib.Core.Path.{sym, ◌∙◌}
use Prim.Native.Nat.{◌-◌}
use mathlib.Core.Bool.{false}
use native.Mathlib.Omega.{arith}
use Rattle.format.specs.Value.{string, ascii}
use Rattle.std.proofs.Common.{rules}
use Rattle.quick.proofs.Rows.{ends_done, names_end, run_ends}
use Rattle.quick.proofs.skip_names.Goals as goal

pub returns-then-run-n : goal.returns-then-run-n
returns-then-run-n c =
    let a = c.args in
    let run = c.past_each-run in
    let name = string false ascii 46 47 in
    sym (ends_done name a.s.now a.n run.result.passed run.result.at (omega (arith, c.if-run-n.true))) ∙ run_ends name a.s.now (λ at next there. search (rules, there)) run.ensures ∙ sym (names_end name a.s.now a.n a.from)

pub returns : goal.returns
returns c =
    let a = c.args in
    let run = c.past_each-run in
    let name = string false ascii 46 47 in
    c.skip_names.ensures ∙ names_end name a.s.now (a.n - run.result.passed) run.result.at ∙ run_ends name a.s.now (λ at next there. search (rules, there)) run.ensures ∙ sym (names_end name a.s.now a.n a.from)
