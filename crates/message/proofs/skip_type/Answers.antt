-- `message::skip_type` meets its contract: the type that was read, and nothing of it. Assumes nothing.
use Rattle.format.proofs.Results.{handed_on}
use mathlib.Core.Path.{sym, ap, ◌∙◌}
use Rattle.scan.specs.Shown.{shown_next}
use Rattle.scan.proofs.Answers.{shown_go, shown_stop}
use Rattle.scan.proofs.Params.{type_fields}
use Rattle.message.proofs.skip_type.Goals as goal

pub returns-in_err-next : goal.returns-in_err-next
returns-in_err-next c =
    let stop = shown_stop _ c.read_type.ensures c.in_err-next.was in
    handed_on c.from_residual.ensures ∙ sym (ap shown_next (type_fields _ _ 45 ∙ stop))

pub returns : goal.returns
returns c =
    let go = shown_go _ c.read_type.ensures c.in_ok-next.was in
    sym (ap shown_next (type_fields _ _ 45 ∙ go))
