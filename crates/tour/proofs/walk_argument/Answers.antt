-- `tour::walk_argument` meets its contract: null, an array, or one value. Assumes nothing.
use Rattle.format.specs.declared.Fault.TheVariants.{WireType}
use Rattle.format.specs.Value.{is_column}
use Rattle.format.specs.Message.{items}
use Rattle.scan.proofs.Answers.{number_stands}
use Rattle.tally.proofs.Tours.{bytes_all}
use Rattle.tally.proofs.Values.{walked_null_argument, walked_array, walked_one, walked_typed}
use Rattle.tour.proofs.walk_argument.Goals as goal

pub returns-then-t-eq-NULL : goal.returns-then-t-eq-NULL
returns-then-t-eq-NULL c = let a = c.args in walked_null_argument a.s.now a.tour a.out.now a.t c.if-t-eq-NULL.true

pub returns-then-t-eq-ARRAY : goal.returns-then-t-eq-ARRAY
returns-then-t-eq-ARRAY c =
    let a = c.args in
    let b = bytes_all a.s.now c.type_inv.s in
    walked_array a.s.now b a.t c.if-t-eq-ARRAY.true (walked_typed is_column WireType 25 items a.s.now b (number_stands c.byte_at-element.ensures) c.walk_fixed-array.ensures c.walk_items.ensures)

pub returns : goal.returns
returns c = let a = c.args in walked_one a.s.now (bytes_all a.s.now c.type_inv.s) a.t c.if-t-eq-NULL.false c.if-t-eq-ARRAY.false c.walk_value.ensures
