-- `quick::plain_rows` meets its contract: where the rows that are left end is where all end. Assumes nothing.
use mathlib.Core.Path.{◌≡◌, refl, ◌∙◌, ap}
use Prim.Native.Nat.{ℕ, ◌-◌}
use native.Mathlib.Omega.{arith}
use borrow.Author.Tests.{not-false}
use Rattle.format.specs.Message.{row}
use Rattle.quick.specs.Past.{Ends}
use Rattle.quick.proofs.Rows.{ends_turn, plain_row_reads}
use Rattle.quick.proofs.plain_rows.Goals as goal

pub loop-i-init : goal.loop-i-init
loop-i-init c =
    let a = c.args in
    let all : a.n - 0 ≡ a.n = omega arith in
    λ types is. rw all

pub returns-then-not-is_plain : goal.returns-then-not-is_plain
returns-then-not-is_plain c = (omega (arith, c.loop-i-test.true), c.loop-i.invariant)

pub overflow_add-at-in-loop-i : goal.overflow_add-at-in-loop-i
overflow_add-at-in-loop-i c =
    let stands = c.is_plain.ensures (not-false _ c.if-not-is_plain.false-raw) in
    record { fits = omega (arith, stands.0, c.well_formed.0.0) }

pub loop-i-preserved : goal.loop-i-preserved
loop-i-preserved c =
    let a = c.args in
    let l = c.loop-i in
    let stands = c.is_plain.ensures (not-false _ c.if-not-is_plain.false-raw) in
    λ types is.
    let told = plain_row_reads types a.plain a.s.now l.at is c.requires.0 c.requires.1 stands.0 stands.1 in
    ends_turn (row types) a.s.now a.n l.i l.at c.loop-i-test.true refl told ∙ l.invariant types is

pub returns : goal.returns
returns c =
    let a = c.args in
    let l = c.loop-i in
    let all : a.n ≡ l.i = omega (arith, l.auto.i-end, c.loop-i-test.false) in
    (omega arith, λ types is. ap (λ (k : ℕ). Ends (row types) a.s.now (a.n - k) l.at) all ∙ l.invariant types is)
