-- `query::search` meets its contract: the names that are left decide the search as all of them do. The inner loop has seen that the last bytes are equal.
use Prim.Native.Nat.{◌-◌}
use mathlib.Core.Path.{◌≡◌}
use native.Mathlib.Omega.{arith}
use Rattle.format.specs.Message.{unlimited}
use Rattle.scan.proofs.Answers.{span_stop}
use Rattle.scan.proofs.Counted.{span_here}
use Rattle.places.proofs.Lists.{sized}
use Rattle.query.proofs.Ends.{none_seen, one_more}
use Rattle.query.proofs.Names.{starts, ends, turn, found_it, other_length, other_byte, never_refused}
use Rattle.query.proofs.search.Goals as goal

pub columns-init : goal.columns-init
columns-init c = λ names d. starts _ _ _ _ names d

pub returns-in_default : goal.returns-in_default
returns-in_default c =
    let a = c.args in
    let l = c.columns in
    λ names d. absurd (never_refused a.m.now a.count a.name.now l.i l.at c.columns-test.true (l.invariant names d) (span_stop l.at (sized.read a.m.now l.at) c.read_span.ensures c.in_default.is))

pub overflow_sub-end : goal.overflow_sub-end
overflow_sub-end c = (span_here unlimited c.args.m.now c.columns.at c.read_span.ensures c.in-Ok.is).order

pub columns-preserved-then-end-start : goal.columns-preserved-then-end-start
columns-preserved-then-end-start c =
    let a = c.args in
    let l = c.columns in
    let h = span_here unlimited a.m.now l.at c.read_span.ensures c.in-Ok.is in
    λ names d. other_length a.m.now a.count a.name.now (turn a.m.now a.count a.name.now l.i l.at c.columns-test.true (l.invariant names d) h) c.if-end-start.true

pub loop-last-init : goal.loop-last-init
loop-last-init c = none_seen _ c.args.name.now _ (omega arith)

pub bounds-m-start : goal.bounds-m-start
bounds-m-start c =
    let h = span_here unlimited c.args.m.now c.columns.at c.read_span.ensures c.in-Ok.is in
    omega (arith, h.fit, h.order)

pub columns-preserved : goal.columns-preserved
columns-preserved c =
    let a = c.args in
    let l = c.columns in
    let h = span_here unlimited a.m.now l.at c.read_span.ensures c.in-Ok.is in
    λ names d. other_byte a.m.now a.count a.name.now (turn a.m.now a.count a.name.now l.i l.at c.columns-test.true (l.invariant names d) h) c.if-end-start.false (c.loop-last.last - 1) (omega (arith, c.loop-last.auto.last, c.loop-last-test.true)) c.if-m-start.true

pub loop-last-preserved : goal.loop-last-preserved
loop-last-preserved c = one_more _ c.args.name.now c.loop-last.last c.loop-last.invariant c.if-m-start.false

pub returns-in-columns : goal.returns-in-columns
returns-in-columns c =
    let a = c.args in
    let l = c.columns in
    let h = span_here unlimited a.m.now l.at c.read_span.ensures c.in-Ok.is in
    let none : c.loop-last.last ≡ 0 = omega (arith, c.loop-last-test.false) in
    λ names d. found_it a.m.now a.count a.name.now (turn a.m.now a.count a.name.now l.i l.at c.columns-test.true (l.invariant names d) h) c.if-end-start.false (rw none at c.loop-last.invariant)

pub returns : goal.returns
returns c =
    let a = c.args in
    let l = c.columns in
    λ names d. ends a.m.now a.count a.name.now l.i l.at c.columns-test.false (l.invariant names d)
