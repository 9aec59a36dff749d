-- `columns::name_fault` meets its contract: a name that stands in its buffer is the part that is looked at. Assumes nothing.
use mathlib.Core.Path.{sym, ap, ◌∙◌}
use Prim.Native.Nat.{◌+◌, ◌≤◌}
use lib.ListN.{length}
use borrow.Author.Tests.{leb-true, not-true, not-false}
use Rattle.steps.specs.Arguments.{name_fault}
use Rattle.columns.proofs.Metadata.{name_past, name_judged}
use Rattle.columns.proofs.name_fault.Goals as goal

pub returns-then-not-stands : goal.returns-then-not-stands
returns-then-not-stands c =
    let a = c.args in
    sym (ap (name_fault a.at) (name_past a.names.now a.c (sym c.stands.ensures ∙ not-true _ c.if-not-stands.true-raw)))

pub returns : goal.returns
returns c =
    let a = c.args in
    let h : a.c.start + a.c.size ≤ length a.names.now = leb-true _ _ (sym c.stands.ensures ∙ not-false _ c.if-not-stands.false-raw) in
    name_judged a.at a.names.now a.c h c.also.ensures c.test-short.ensures c.ascii_fault.ensures
