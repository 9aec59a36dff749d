-- `columns::surveyed` meets its contract: by the tests; a name that is counted is short. Assumes nothing.
use Prim.Native.Nat.{◌<◌}
use native.Mathlib.Omega.{arith}
use borrow.Author.Rules.{rules}
use Rattle.format.specs.Message.{most_columns}
use Rattle.columns.proofs.Surveys.{short_next}
use Rattle.columns.proofs.surveyed.Goals as goal

pub overflow_add-result-3 : goal.overflow_add-result-3
overflow_add-result-3 c =
    let a = c.args in
    let short = short_next a.s.at a.names.now a.s.fault a.c c.next_fault-fault.ensures c.in-Ok.is in
    search rules

pub overflow_add-result-4 : goal.overflow_add-result-4
overflow_add-result-4 c =
    let a = c.args in
    let n : a.s.n < most_columns = c.if-s-ge-COLUMNS.false in
    let short = short_next a.s.at a.names.now a.s.fault a.c c.next_fault-fault.ensures c.in-Ok.is in
    search rules

pub invariant_of-result-2 : goal.invariant_of-result-2
invariant_of-result-2 c =
    let a = c.args in
    let n : a.s.n < most_columns = c.if-s-ge-COLUMNS.false in
    let short = short_next a.s.at a.names.now a.s.fault a.c c.next_fault-fault.ensures c.in-Ok.is in
    record { few = omega (arith, n); short = omega (arith, short, a.s.short) }
