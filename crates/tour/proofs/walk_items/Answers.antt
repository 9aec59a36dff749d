-- `tour::walk_items` meets its contract: bytes, or a count and values. Assumes nothing.
use Rattle.std.proofs.Common.{false}
use Rattle.format.specs.Value.{anything}
use Rattle.format.specs.Message.{most_items, second}
use Rattle.format.proofs.Formats.{lawful_value}
use Rattle.scan.proofs.Answers.{number_stands}
use Rattle.tally.proofs.Tours.{bytes_all}
use Rattle.tally.proofs.Values.{walked_list, walked_bytes, walked_values}
use Rattle.tour.proofs.walk_items.Goals as goal

pub returns-then-t-eq-TINYINT : goal.returns-then-t-eq-TINYINT
returns-then-t-eq-TINYINT c = let a = c.args in walked_bytes a.s.now (bytes_all a.s.now c.type_inv.s) a.t c.if-t-eq-TINYINT.true (c.walk_body.ensures false anything)

pub returns : goal.returns
returns c =
    let a = c.args in
    let b = bytes_all a.s.now c.type_inv.s in
    walked_values a.s.now b a.t c.if-t-eq-TINYINT.false (walked_list 2 most_items 26 second (lawful_value 27 28 a.t) a.s.now b (number_stands c.number_at-n.ensures) c.walk_fixed-elements.ensures c.walk_values.ensures)
