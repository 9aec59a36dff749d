-- `text::well_formed` meets its contract: past the sequences that were passed, what is said of the rest is what is said of all. Assumes nothing.
use mathlib.Core.Path.{sym, ◌∙◌}
use Rattle.text.proofs.Runs.{text_passed, text_all}
use Rattle.text.proofs.well_formed.Goals as goal

pub returns-then-b-lt19 : goal.returns-then-b-lt19
returns-then-b-lt19 c = let w = c.passed.ensures in text_passed c.args.b.now c.passed.result w.0 w.1

pub returns-then-is_surely_text : goal.returns-then-is_surely_text
returns-then-is_surely_text c = text_all c.args.b.now (sym c.passed-start.ensures.0 ∙ c.is_surely_text.ensures c.if-is_surely_text.true)

pub returns : goal.returns
returns c =
    let w = c.passed-2.ensures in
    text_passed c.args.b.now c.passed-2.result (w.0 ∙ c.passed-start.ensures.0) w.1
