-- `pass::pass_param` meets its contract: a type, and what it decides.
use Rattle.format.specs.declared.Fault.TheVariants.{WireType}
use Rattle.format.specs.Message.{argument}
use Rattle.scan.proofs.Answers.{number_stands}
use Rattle.pass.proofs.Values.{is_param, passes_param, passes_typed}
use Rattle.pass.proofs.pass_param.Goals as goal

pub returns : goal.returns
returns c =
    let a = c.args in
    passes_param a.s.now (passes_typed is_param WireType 24 argument a.s.now (number_stands c.byte_at-t.ensures) (c.pass_fixed-value.ensures 24) c.pass_argument.ensures)
