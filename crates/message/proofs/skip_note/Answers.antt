-- `message::skip_note` meets its contract: the text, if there is one. Assumes nothing.
use mathlib.Core.Path.{sym, ◌∙◌}
use mathlib.Core.Option.{none}
use borrow.Author.Tests.{not-true, not-false}
use Rattle.format.specs.Message.{null_text}
use Rattle.message.proofs.Runs.{present_ends, absent_ends}
use Rattle.message.proofs.skip_note.Goals as goal

pub returns-then-not-there : goal.returns-then-not-there
returns-then-not-there c =
    sym (absent_ends none (null_text 0 0) _ _ _ (not-true _ c.if-not-there.true-raw))

pub returns : goal.returns
returns c =
    c.skip_text.ensures ∙ sym (present_ends none (null_text 0 0) _ _ _ (not-false _ c.if-not-there.false-raw))
