-- `message::skip_noted` meets its contract: the status, and the text if there is one. Assumes nothing.
use Rattle.format.proofs.Results.{handed_on}
use mathlib.Core.Path.{sym, ◌∙◌}
use mathlib.Core.Option.{none}
use Rattle.format.specs.Format.{number, present}
use Rattle.format.specs.Message.{null_text}
use Rattle.scan.proofs.Steps.{goes_on, halts}
use Rattle.message.proofs.skip_noted.Goals as goal

pub returns-in_err-next : goal.returns-in_err-next
returns-in_err-next c =
    let a = c.args in
    handed_on c.from_residual.ensures ∙ sym (halts (number 1 0) (present a.there none (null_text 0 0)) _ _ c.skip_fixed.ensures c.in_err-next.was)

pub returns : goal.returns
returns c =
    let a = c.args in
    c.skip_note.ensures ∙ sym (goes_on (number 1 0) (present a.there none (null_text 0 0)) _ _ c.skip_fixed.ensures c.in_ok-next.was)
