-- `pass::pass_body` meets its contract: a length, and its bytes where it isn't null's.
use Rattle.format.specs.Value.{most_bytes}
use Rattle.scan.proofs.Answers.{number_stands}
use Rattle.pass.proofs.Parts.{passes_null, passes_some}
use Rattle.pass.proofs.pass_body.Goals as goal

pub returns-then-n-eq-NULL_LENGTH : goal.returns-then-n-eq-NULL_LENGTH
returns-then-n-eq-NULL_LENGTH c =
    λ nullable rule l b.
    let a = c.args in
    passes_null a.s.now nullable most_bytes rule l b (number_stands c.number_at-n.ensures) (c.pass_fixed-start.ensures 0) c.if-n-eq-NULL_LENGTH.true

pub returns : goal.returns
returns c =
    λ nullable rule l b.
    let a = c.args in
    passes_some a.s.now nullable most_bytes rule l b (number_stands c.number_at-n.ensures) (c.pass_fixed-start.ensures 0) c.if-n-eq-NULL_LENGTH.false (c.pass_fixed.ensures 0)
