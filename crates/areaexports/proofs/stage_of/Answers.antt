-- `areaexports::stage_of` meets its contract, case by case.
use mathlib.Core.Path.{sym, ap}
use borrow.Author.Tests.{ne_eqb}
use Rattle.areaexports.specs.Stored.{stage_of}
use Rattle.areaexports.proofs.stage_of.Goals as goal

pub returns-in-1 : goal.returns-in-1
returns-in-1 c = sym (ap stage_of c.in-1.is)

pub returns-in-2 : goal.returns-in-2
returns-in-2 c = sym (ap stage_of c.in-2.is)

pub returns-in_default : goal.returns-in_default
returns-in_default c =
    let n = c.args.n in
    let r = c.in_default.in_default-own.rest in
    rw (ne_eqb n 1 r.0.1, ne_eqb n 2 r.1)
