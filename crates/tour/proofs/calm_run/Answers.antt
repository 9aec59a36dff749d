-- `tour::calm_run` meets its contract. Assumes nothing.
use Rattle.std.proofs.Common.{arith}
use borrow.Author.Tests.{not-false}
use Rattle.tour.proofs.calm_run.Goals as goal

pub returns-then-size-eq0 : goal.returns-then-size-eq0
returns-then-size-eq0 c = record { few = omega arith; calm = λ some_rows. absurd (omega arith) }

pub returns-then-is_wanted : goal.returns-then-is_wanted
returns-then-is_wanted c = record { few = omega arith; calm = λ some_rows. absurd (omega arith) }

pub overflow_add-columns : goal.overflow_add-columns
overflow_add-columns c =
    let few = c.requires.1 (omega arith) in
    omega arith

pub returns-then-not-rows_stand : goal.returns-then-not-rows_stand
returns-then-not-rows_stand c = record { few = omega arith; calm = λ some_rows. absurd (omega arith) }

pub returns : goal.returns
returns c =
    let rows = c.calm_rows-k.ensures in
    record { few = rows.0; calm = λ some_rows. (c.rows_stand.ensures (not-false _ c.if-not-rows_stand.false-raw), rows.1 some_rows) }
