-- `scan::read_span` meets its contract: a length, and what it says. Assumes nothing.
use mathlib.Core.Bool.{false}
use mathlib.Core.Path.{sym, ◌∙◌, ap}
use Rattle.format.specs.Value.{anything}
use Rattle.format.proofs.Results.{handed_on}
use Rattle.scan.specs.Shown.{shown_span}
use Rattle.scan.proofs.Answers.{shown_go, shown_stop, took}
use Rattle.scan.proofs.Counted.{no_length, length_stands}
use Rattle.scan.proofs.read_span.Goals as goal

pub returns-in_err-n : goal.returns-in_err-n
returns-in_err-n c =
    let stop = shown_stop _ c.read_number.ensures c.in_err-n.was in
    handed_on c.from_residual.ensures ∙ sym (ap (shown_span _) (no_length false c.args.most anything 0 0 _ _ stop))

pub span_of-requires : goal.span_of-requires
span_of-requires c = (took 4 0 _ _ _ _ (shown_go _ c.read_number.ensures c.in_ok-n.was)).fit

pub returns : goal.returns
returns c = c.span_of.ensures (length_stands _ _ (shown_go _ c.read_number.ensures c.in_ok-n.was))
