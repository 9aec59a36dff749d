-- `pass::pass_optional` meets its contract: by its test.
use mathlib.Core.Option.{none}
use borrow.Author.Tests.{not-true, not-false}
use Rattle.format.specs.Value.{string}
use Rattle.pass.proofs.Parts.{passes_present, passes_absent}
use Rattle.pass.proofs.pass_optional.Goals as goal

pub returns-then-not-there : goal.returns-then-not-there
returns-then-not-there c = λ nullable rule l b. let a = c.args in passes_absent none (string nullable rule l b) a.s.now a.at a.there (not-true _ c.if-not-there.true-raw)

pub returns : goal.returns
returns c = λ nullable rule l b. let a = c.args in passes_present none (string nullable rule l b) a.s.now a.at a.there (not-false _ c.if-not-there.false-raw) (c.pass_body.ensures nullable rule l b)
