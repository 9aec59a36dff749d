-- `scan::span_of` meets its contract: one test finds what passes every test of the definition, and each other return is one that it doesn't. Assumes nothing.
use mathlib.Core.Bool.{false}
use mathlib.Core.Path.{sym, ◌∙◌, ap, refl}
use Rattle.std.specs.Prelude.{Ok}
use Prim.Native.Nat.{ℕ, ◌+◌, ◌-◌, ◌<◌, ◌≤◌, min}
use lib.ListN.{length}
use native.Mathlib.Omega.{arith}
use borrow.Author.Tests.{le-leb, lt-leb}
use Rattle.format.specs.Message.{unlimited}
use Rattle.format.specs.Value.{anything}
use Rattle.scan.specs.Shown.{shown_span}
use Rattle.scan.proofs.Counted.{negative, limited, short, whole}
use Rattle.scan.proofs.span_of.Goals as goal

pub overflow_sub-s : goal.overflow_sub-s
overflow_sub-s c = c.requires

pub returns-then-n-most_in : goal.returns-then-n-most_in
returns-then-n-most_in c = λ got.
    let n = c.args.n in
    let a = c.args in
    let within : n ≤ min (min a.most unlimited) (length a.s.now - (a.at + 4)) = rw (← c.most_in.ensures) c.if-n-most_in.true in
    let positive : n < 2147483648 = omega arith in
    let few : n ≤ a.most = omega arith in
    let fit : a.at + 4 + n ≤ length a.s.now = omega (arith, c.requires) in
    let all = whole false a.most anything 0 0 a.s.now a.at n _ got refl positive few (le-leb _ _ fit) in
    ap (λ (end : ℕ). Ok (a.at + 4, end)) all.1 ∙ sym (ap (shown_span _) all.0)

pub returns-then-n-ge-NEGATIVE : goal.returns-then-n-ge-NEGATIVE
returns-then-n-ge-NEGATIVE c = λ got. sym (ap (shown_span _) (negative false c.args.most anything 0 0 _ _ _ _ got refl c.if-n-ge-NEGATIVE.true))

pub returns-then-most-n : goal.returns-then-most-n
returns-then-most-n c = λ got. sym (ap (shown_span _) (limited false c.args.most anything 0 0 _ _ _ _ got refl c.if-n-ge-NEGATIVE.false c.if-most-n.true))

pub returns : goal.returns
returns c = λ got.
    let n = c.args.n in
    let a = c.args in
    let beyond : min (min a.most unlimited) (length a.s.now - (a.at + 4)) < n = rw (← c.most_in.ensures) c.if-n-most_in.false in
    let over : length a.s.now < a.at + 4 + n = omega (arith, c.if-n-ge-NEGATIVE.false, c.if-most-n.false) in
    sym (ap (shown_span _) (short false a.most anything 0 0 _ _ _ _ got refl c.if-n-ge-NEGATIVE.false c.if-most-n.false (lt-leb _ _ over)))
