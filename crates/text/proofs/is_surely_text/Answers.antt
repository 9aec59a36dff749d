-- `text::is_surely_text` meets its contract: a sequence begins at the place, none goes on past the end, and each byte may stand where it does. Assumes nothing.
use mathlib.Core.Path.{◌≡◌, sym, subst}
use mathlib.Core.Bool.{true≢false}
use Prim.Native.Nat.{ℕ, ◌+◌, ◌-◌}
use lib.ListN.{length, drop}
use native.Mathlib.Omega.{arith}
use borrow.Author.Tests.{not-false}
use Rattle.format.specs.Format.{fine}
use Rattle.format.specs.Text.{utf8_from}
use Rattle.text.specs.Windows.{Between}
use Rattle.text.proofs.Windows.{windows_text}
use Rattle.text.proofs.is_surely_text.Goals as goal

pub returns-then-from-lt3 : goal.returns-then-from-lt3
returns-then-from-lt3 c = λ e. absurd (true≢false (sym e))

pub returns-then-b-lt16 : goal.returns-then-b-lt16
returns-then-b-lt16 c = λ e. absurd (true≢false (sym e))

pub returns-then-b-from : goal.returns-then-b-from
returns-then-b-from c = λ e. absurd (true≢false (sym e))

pub returns-then-not-is_between : goal.returns-then-not-is_between
returns-then-not-is_between c = λ e. absurd (true≢false (sym e))

pub returns-then-not-is_between-2 : goal.returns-then-not-is_between-2
returns-then-not-is_between-2 c = λ e. absurd (true≢false (sym e))

pub returns : goal.returns
returns c =
    let a = c.args in
    let b = a.b.now in
    let room = c.if-b-from.false in
    let low = c.if-from-lt3.false in
    let start = a.from - 3 in
    let n = length b - 3 - start in
    let end : length b - 3 ≡ start + n = omega (arith, room, low) in
    let first = c.is_between.ensures (not-false _ c.if-not-is_between.false-raw) in
    let last = subst (Between b) end (c.is_between-2.ensures (not-false _ c.if-not-is_between-2.false-raw)) in
    let from : start + 3 ≡ a.from = omega (arith, low) in
    λ e. subst (λ (p : ℕ). utf8_from p 0 (drop p b) ≡ fine) from (windows_text b start n (omega (arith, room, low)) (c.all_right.ensures e) first last)
