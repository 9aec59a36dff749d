-- `pass::pass_values`: what is left ends where the whole does.
use Rattle.format.specs.Value.{value}
use Rattle.format.specs.Message.{second}
use Rattle.pass.proofs.Rounds.{Round}
use Rattle.pass.proofs.pass_values.Given as goal

abbrev pub invariant-loop : goal.invariant-loop
invariant-loop l = Round second (λ i. value 27 28 l.t) l.s l.n l.from l.counter l.at
