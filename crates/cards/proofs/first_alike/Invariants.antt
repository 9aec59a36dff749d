-- `cards::first_alike`: the columns that are left decide the search as all of them do.
use Rattle.cards.specs.Shown.{Laid}
use Rattle.cards.proofs.Alike.{Left}
use Rattle.cards.proofs.first_alike.Given as goal

abbrev pub invariant-loop-i : goal.invariant-loop-i
invariant-loop-i l = (w : Laid l.m l.layout) → Left l.wire_type l.name w l.at l.i
