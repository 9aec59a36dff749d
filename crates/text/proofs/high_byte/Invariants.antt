-- `text::high_byte`: what is said of the bytes that are left is what is said of all.
use mathlib.Core.Path.{◌≡◌}
use lib.ListN.{drop}
use Rattle.format.specs.Value.{ascii_from}
use Rattle.text.proofs.high_byte.Given as goal

abbrev pub invariant-loop-i : goal.invariant-loop-i
invariant-loop-i l = ascii_from l.i (drop l.i l.b) ≡ ascii_from 0 l.b
