-- `tour::walk_trip` meets its contract, by its test. Assumes nothing.
use borrow.Author.Tests.{not-true, not-false}
use Rattle.format.specs.Format.{number}
use Rattle.format.proofs.Laws.{lawful_number}
use Rattle.tally.proofs.Tours.{bytes_all}
use Rattle.tour.proofs.Contents.{walked_present, walked_absent}
use Rattle.tour.proofs.walk_trip.Goals as goal

pub returns-then-not-timed : goal.returns-then-not-timed
returns-then-not-timed c = let a = c.args in walked_absent 0 (number 4 37) a.s.now _ (not-true _ c.if-not-timed.true-raw) a.tour a.out.now

pub returns : goal.returns
returns c = let a = c.args in walked_present 0 (number 4 37) a.s.now _ (not-false _ c.if-not-timed.false-raw) (bytes_all a.s.now c.type_inv.s) (lawful_number 4 37) c.walk_fixed.ensures
