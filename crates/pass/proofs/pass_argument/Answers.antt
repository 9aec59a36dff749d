-- `pass::pass_argument` meets its contract: null, an array, or one value.
use Rattle.format.specs.declared.Fault.TheVariants.{WireType}
use Rattle.format.specs.Value.{is_column}
use Rattle.format.specs.Message.{items}
use Rattle.scan.proofs.Answers.{number_stands}
use Rattle.pass.proofs.Values.{passes_no_argument, passes_array, passes_one, passes_typed}
use Rattle.pass.proofs.pass_argument.Goals as goal

pub returns-then-t-eq-NULL : goal.returns-then-t-eq-NULL
returns-then-t-eq-NULL c = let a = c.args in passes_no_argument a.s.now a.at a.t c.if-t-eq-NULL.true

pub returns-then-t-eq-ARRAY : goal.returns-then-t-eq-ARRAY
returns-then-t-eq-ARRAY c =
    let a = c.args in
    passes_array a.s.now a.t c.if-t-eq-ARRAY.true
    (passes_typed is_column WireType 25 items a.s.now (number_stands c.byte_at-element.ensures) (c.pass_fixed-array.ensures 25) c.pass_items.ensures)

pub returns : goal.returns
returns c = let a = c.args in passes_one a.s.now a.t c.if-t-eq-NULL.false c.if-t-eq-ARRAY.false (c.pass_value.ensures 27 28)
