-- `message::read_described` meets its contract: field after field, and the types stand side by side. Assumes nothing.
use Rattle.format.proofs.Results.{handed_on}
use mathlib.Core.Path.{◌∙◌, sym, ap}
use Rattle.scan.proofs.Answers.{shown_go, shown_stop, next_go, next_stop}
use Rattle.message.specs.Columns.{shown_columns}
use Rattle.message.proofs.Rooms.{no_status, no_count, no_types, no_names, described_answer}
use Rattle.message.proofs.read_described.Goals as goal

pub returns-in_err-counted : goal.returns-in_err-counted
returns-in_err-counted c =
    let stop = next_stop _ c.skip_fixed.ensures c.in_err-counted.was in
    handed_on c.from_residual.ensures ∙ sym (ap (shown_columns _) (no_status _ _ stop))

pub returns-in_err-n : goal.returns-in_err-n
returns-in_err-n c =
    let status = next_go _ c.skip_fixed.ensures c.in_ok-counted.was in
    let stop = shown_stop _ c.read_count.ensures c.in_err-n.was in
    handed_on c.from_residual-in_err-n.ensures ∙ sym (ap (shown_columns _) (no_count _ _ status.1 stop))

pub returns-in_err-names : goal.returns-in_err-names
returns-in_err-names c =
    let status = next_go _ c.skip_fixed.ensures c.in_ok-counted.was in
    let columns = shown_go _ c.read_count.ensures c.in_ok-n.was in
    let stop = next_stop _ c.skip_types.ensures c.in_err-names.was in
    handed_on c.from_residual-in_err-names.ensures ∙ sym (ap (shown_columns _) (no_types _ _ status.1 columns stop))

pub returns-in_err-next : goal.returns-in_err-next
returns-in_err-next c =
    let status = next_go _ c.skip_fixed.ensures c.in_ok-counted.was in
    let columns = shown_go _ c.read_count.ensures c.in_ok-n.was in
    let types = next_go _ c.skip_types.ensures c.in_ok-names.was in
    let stop = next_stop _ c.skip_names.ensures c.in_err-next.was in
    handed_on c.from_residual-in_err-next.ensures ∙ sym (ap (shown_columns _) (no_names _ _ status.1 columns types.1 stop))

pub returns : goal.returns
returns c =
    let status = next_go _ c.skip_fixed.ensures c.in_ok-counted.was in
    let columns = shown_go _ c.read_count.ensures c.in_ok-n.was in
    let types = next_go _ c.skip_types.ensures c.in_ok-names.was in
    let names = next_go _ c.skip_names.ensures c.in_ok-next.was in
    described_answer _ _ status.1 columns types.1 names.1
