-- `quick::read_room` meets its contract: a body that surely is one is what a longer limit gives too. Assumes nothing.
use native.Mathlib.Omega.{arith}
use Rattle.format.specs.Message.{most_message}
use Rattle.quick.proofs.Bodies.{room_reads}
use Rattle.quick.proofs.read_room.Goals as goal

pub returns-in-Some : goal.returns-in-Some
returns-in-Some c =
    let a = c.args in
    room_reads a.s.now a.at most_message c.sure_body.ensures c.in-Some.is (omega arith)
