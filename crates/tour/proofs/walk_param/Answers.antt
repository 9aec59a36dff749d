-- `tour::walk_param` meets its contract: a type, and what it decides. Assumes nothing.
use Rattle.format.specs.declared.Fault.TheVariants.{WireType}
use Rattle.format.specs.Message.{argument}
use Rattle.scan.proofs.Answers.{number_stands}
use Rattle.tally.proofs.Tours.{bytes_all}
use Rattle.tally.proofs.Values.{is_param, walked_param, walked_typed}
use Rattle.tour.proofs.walk_param.Goals as goal

pub returns : goal.returns
returns c =
    let a = c.args in
    let b = bytes_all a.s.now c.type_inv.s in
    walked_param a.s.now b (walked_typed is_param WireType 24 argument a.s.now b (number_stands c.byte_at-t.ensures) c.walk_fixed-value.ensures c.walk_argument.ensures)
