-- `quick::is_plain` meets its contract: the room first, then the length. Assumes nothing.
use mathlib.Core.Path.{sym, ◌∙◌}
use mathlib.Core.Bool.{true≢false}
use native.Mathlib.Omega.{arith}
use borrow.Author.Tests.{eqb-true}
use Rattle.quick.proofs.is_plain.Goals as goal

pub returns-then-s-at : goal.returns-then-s-at
returns-then-s-at c = λ e. absurd (true≢false (sym e))

pub returns-then-s-at-2 : goal.returns-then-s-at-2
returns-then-s-at-2 c = λ e. absurd (true≢false (sym e))

pub returns : goal.returns
returns c = λ e. (omega (arith, c.if-s-at.false, c.if-s-at-2.false), sym c.four.ensures.0 ∙ eqb-true _ _ e)
