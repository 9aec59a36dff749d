-- `pass::pass_trip` meets its contract: by its test.
use borrow.Author.Tests.{not-true, not-false}
use Rattle.format.specs.Format.{number}
use Rattle.pass.proofs.Parts.{passes_present, passes_absent}
use Rattle.pass.proofs.pass_trip.Goals as goal

pub returns-then-not-timed : goal.returns-then-not-timed
returns-then-not-timed c = let a = c.args in passes_absent 0 (number 4 37) a.s.now a.at a.timed (not-true _ c.if-not-timed.true-raw)

pub returns : goal.returns
returns c = let a = c.args in passes_present 0 (number 4 37) a.s.now a.at a.timed (not-false _ c.if-not-timed.false-raw) (c.pass_fixed.ensures 37)
