-- `pass::pass_params`: what is left ends where the whole does.
use Rattle.format.specs.Message.{first, param}
use Rattle.pass.proofs.Rounds.{Round}
use Rattle.pass.proofs.pass_params.Given as goal

abbrev pub invariant-loop : goal.invariant-loop
invariant-loop l = Round first (λ k. param) l.s l.n l.from l.counter l.at
