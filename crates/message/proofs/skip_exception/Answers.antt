-- `message::skip_exception` meets its contract: the bytes, if they are there. Assumes nothing.
use mathlib.Core.Path.{sym, ◌∙◌}
use mathlib.Core.Option.{none}
use borrow.Author.Tests.{not-true, not-false}
use Rattle.format.specs.Message.{binary}
use Rattle.message.proofs.Runs.{present_ends, absent_ends}
use Rattle.message.proofs.skip_exception.Goals as goal

pub returns-then-not-there : goal.returns-then-not-there
returns-then-not-there c =
    sym (absent_ends none (binary 0 0) _ _ _ (not-true _ c.if-not-there.true-raw))

pub returns : goal.returns
returns c =
    c.skip_body.ensures ∙ sym (present_ends none (binary 0 0) _ _ _ (not-false _ c.if-not-there.false-raw))
