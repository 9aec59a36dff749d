-- `pass::pass_items` meets its contract: bytes, or a count and values.
use mathlib.Core.Bool.{false}
use Rattle.format.specs.Value.{anything, value}
use Rattle.format.specs.Message.{most_items, second}
use Rattle.scan.proofs.Answers.{number_stands}
use Rattle.pass.proofs.Values.{passes_list, passes_bytes, passes_values}
use Rattle.pass.proofs.pass_items.Goals as goal

pub returns-then-t-eq-TINYINT : goal.returns-then-t-eq-TINYINT
returns-then-t-eq-TINYINT c = let a = c.args in passes_bytes a.s.now a.t c.if-t-eq-TINYINT.true (c.pass_body.ensures false anything 26 28)

pub returns : goal.returns
returns c =
    let a = c.args in
    passes_values a.s.now a.t c.if-t-eq-TINYINT.false
    (passes_list 2 most_items 26 second (value 27 28 a.t) a.s.now (number_stands c.number_at-n.ensures) (c.pass_fixed-elements.ensures 26) c.pass_values.ensures)
