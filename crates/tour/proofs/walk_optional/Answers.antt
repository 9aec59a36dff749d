-- `tour::walk_optional` meets its contract. Assumes nothing.
use mathlib.Core.Option.{none}
use borrow.Author.Tests.{not-true, not-false}
use Rattle.format.specs.Value.{string}
use Rattle.tally.proofs.Tours.{bytes_all}
use Rattle.tally.proofs.Values.{lawful_string}
use Rattle.tour.proofs.Contents.{walked_present, walked_absent}
use Rattle.tour.proofs.walk_optional.Goals as goal

pub returns-then-not-there : goal.returns-then-not-there
returns-then-not-there c = λ nullable rule. let a = c.args in walked_absent none (string nullable rule a.prefix a.body) a.s.now _ (not-true _ c.if-not-there.true-raw) a.tour a.out.now

pub returns : goal.returns
returns c = λ nullable rule. let a = c.args in walked_present none (string nullable rule a.prefix a.body) a.s.now _ (not-false _ c.if-not-there.false-raw) (bytes_all a.s.now c.type_inv.s) (lawful_string nullable rule a.prefix a.body) (c.walk_body.ensures nullable rule)
