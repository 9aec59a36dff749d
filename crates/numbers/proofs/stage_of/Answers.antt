-- `numbers::stage_of` meets its contract, case by case. Assumes nothing.
use mathlib.Core.Path.{sym, ap}
use borrow.Author.Tests.{ne_eqb}
use Rattle.numbers.specs.Stored.{stage_of}
use Rattle.numbers.proofs.stage_of.Goals as goal

pub returns-in-1 : goal.returns-in-1
returns-in-1 c = sym (ap stage_of c.in-1.is)

pub returns-in-2 : goal.returns-in-2
returns-in-2 c = sym (ap stage_of c.in-2.is)

pub returns-in-3 : goal.returns-in-3
returns-in-3 c = sym (ap stage_of c.in-3.is)

pub returns-in-4 : goal.returns-in-4
returns-in-4 c = sym (ap stage_of c.in-4.is)

pub returns-in-5 : goal.returns-in-5
returns-in-5 c = sym (ap stage_of c.in-5.is)

pub returns-in_default : goal.returns-in_default
returns-in_default c =
    let n = c.args.n in
    let r = c.in_default.in_default-own.rest in
    rw (ne_eqb n 1 r.0.0.0.0.1, ne_eqb n 2 r.0.0.0.1, ne_eqb n 3 r.0.0.1, ne_eqb n 4 r.0.1, ne_eqb n 5 r.1)
