-- `record::number_at` meets its contract: the number, if it fits.
use Prim.Native.Nat.{min}
use Rattle.format.specs.Format.{number}
use Rattle.scan.proofs.Answers.{shown_go, shown_stop}
use Rattle.record.proofs.Fields.{number_is, number_none}
use Rattle.record.proofs.number_at.Goals as goal

pub returns-in-Ok : goal.returns-in-Ok
returns-in-Ok c =
    let a = c.args in
    number_is a.s.now a.at (min a.width 8) (shown_go ((number (min a.width 8) 0).read a.s.now a.at) c.read_number.ensures c.in-Ok.is)

pub returns-in-Err : goal.returns-in-Err
returns-in-Err c =
    let a = c.args in
    number_none a.s.now a.at (min a.width 8) (shown_stop ((number (min a.width 8) 0).read a.s.now a.at) c.read_number.ensures c.in-Err.is)
