-- `scan::read_halves` meets its contract: two numbers of 8 bytes side by side. Assumes nothing.
use mathlib.Core.Path.{sym, ◌∙◌}
use borrow.Author.Tests.{not-true, leb-true, leb-false}
use native.Mathlib.Omega.{arith}
use Rattle.scan.proofs.Sixteen.{halves_there, halves_gone}
use Rattle.scan.proofs.read_halves.Goals as goal

pub returns-then-not-fits : goal.returns-then-not-fits
returns-then-not-fits c = let over = leb-false _ _ (sym c.fits.ensures ∙ not-true _ c.if-not-fits.true-raw) in halves_gone _ _ (λ room. omega (arith, over, room))

pub returns : goal.returns
returns c = halves_there _ _ _ _ (leb-true _ _ (sym c.fits.ensures ∙ c.if-not-fits.false)) c.eight-2.type_inv c.eight.ensures c.eight-2.ensures
