-- `cards::same_bytes`: the bytes from one on are equal.
use lib.ListN.{get_or}
use Rattle.query.proofs.Ends.{EqualFrom}
use Rattle.cards.proofs.same_bytes.Given as goal

abbrev pub invariant-loop-i : goal.invariant-loop-i
invariant-loop-i l = EqualFrom (λ k. get_or l.a k 0) l.b l.i
