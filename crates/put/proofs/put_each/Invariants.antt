-- `put::put_each`: after each turn one byte more of the number stands at its end.
use Rattle.put.proofs.Laws.{Wrote}
use Rattle.put.proofs.put_each.Given as goal

abbrev pub invariant-loop-i : goal.invariant-loop-i
invariant-loop-i l = Wrote l.initial.out l.n l.k l.i l.rest l.out
