-- `tour::walk_body` meets its contract: a length, and its bytes where it isn't null's. Assumes nothing.
use Rattle.format.specs.Value.{most_bytes}
use Rattle.scan.proofs.Answers.{number_stands}
use Rattle.tally.proofs.Tours.{walked_null, walked_some}
use Rattle.tour.proofs.walk_body.Goals as goal

pub returns-then-n-eq-NULL_LENGTH : goal.returns-then-n-eq-NULL_LENGTH
returns-then-n-eq-NULL_LENGTH c = λ nullable rule. let a = c.args in walked_null a.s.now nullable most_bytes rule a.prefix a.body _ (number_stands c.number_at-n.ensures) c.walk_fixed-start.ensures c.if-n-eq-NULL_LENGTH.true

pub returns : goal.returns
returns c = λ nullable rule. let a = c.args in walked_some a.s.now nullable most_bytes rule a.prefix a.body _ (number_stands c.number_at-n.ensures) c.walk_fixed-start.ensures c.if-n-eq-NULL_LENGTH.false c.walk_fixed.ensures
