-- `cards::wrong_byte`: the first wrong byte of those that are left is the first of all.
use mathlib.Core.Path.{◌≡◌}
use lib.ListN.{drop}
use Rattle.cards.specs.Card.{wrong_from}
use Rattle.cards.proofs.wrong_byte.Given as goal

abbrev pub invariant-loop-k : goal.invariant-loop-k
invariant-loop-k l = wrong_from l.size l.k (drop l.k l.name) ≡ wrong_from l.size 0 l.name
