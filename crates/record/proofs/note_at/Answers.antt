-- `record::note_at` meets its contract: a string, if it is there.
use mathlib.Core.Path.{◌∙◌}
use borrow.Author.Tests.{not-true, not-false}
use Rattle.record.proofs.Fields.{note_absent, note_there}
use Rattle.record.proofs.note_at.Goals as goal

pub returns-then-not-there : goal.returns-then-not-there
returns-then-not-there c = note_absent c.args.s.now c.args.at _ _ (not-true _ c.if-not-there.true-raw)

pub returns : goal.returns
returns c = c.text_at.ensures ∙ note_there c.args.s.now c.args.at _ _ (not-false _ c.if-not-there.false-raw)
