-- `message::skip_message` meets its contract: the version, its rule, and the content. Assumes nothing.
use Rattle.format.proofs.Results.{handed_on}
use mathlib.Core.Path.{sym, ap, ◌∙◌}
use lib.Dec.{leb}
use borrow.Author.Tests.{le-leb, lt-leb}
use Rattle.format.specs.declared.Fault.TheVariants.{Version}
use Rattle.format.specs.Format.{number}
use Rattle.format.specs.Message.{newest, content_of}
use Rattle.scan.specs.Shown.{shown_next}
use Rattle.scan.proofs.Answers.{shown_go, shown_stop}
use Rattle.scan.proofs.Steps.{both_ends, both_stop, ruled_go, ruled_bad, ruled_stop}
use Rattle.scan.proofs.Params.{number_fields}
use Rattle.message.proofs.Whole.{versioned, message_ends}
use Rattle.message.proofs.skip_message.Goals as goal

pub returns-in_err-version : goal.returns-in_err-version
returns-in_err-version c =
    let layout = c.args.layout in
    let stop = shown_stop _ c.read_byte.ensures c.in_err-version.was in
    handed_on c.from_residual.ensures ∙ sym (message_ends _ _ layout ∙ ap shown_next (both_stop (versioned layout) (content_of layout) _ _ (ruled_stop (λ n. leb n (newest layout)) Version (number 1 2) _ _ (number_fields _ _ 1 2 ∙ stop))))

pub returns-then-newest_version-version : goal.returns-then-newest_version-version
returns-then-newest_version-version c =
    let layout = c.args.layout in
    let go = shown_go _ c.read_byte.ensures c.in_ok-version.was in
    sym (message_ends _ _ layout ∙ ap shown_next (both_stop (versioned layout) (content_of layout) _ _ (ruled_bad (λ n. leb n (newest layout)) Version (number 1 2) _ _ (number_fields _ _ 1 2 ∙ go) (rw (sym c.newest_version.ensures) (lt-leb _ _ c.if-newest_version-version.true)))))

pub returns : goal.returns
returns c =
    let layout = c.args.layout in
    let go = shown_go _ c.read_byte.ensures c.in_ok-version.was in
    c.skip_content.ensures
    ∙ sym (message_ends _ _ layout ∙ both_ends (versioned layout) (content_of layout) _ _ (ruled_go (λ n. leb n (newest layout)) Version (number 1 2) _ _ (number_fields _ _ 1 2 ∙ go) (rw (sym c.newest_version.ensures) (le-leb _ _ c.if-newest_version-version.false))))
